use Rattle.std.proofs.Common.{◌<◌, ◌*◌, ◌^◌, suc, arith}
use Rattle.s66_cert.proofs.Short.{below-billion}
use Rattle.s66_cert.proofs.scan.value_of.Goals as goal

pub returns-clause-small : goal.returns-clause-small
returns-clause-small c = below-billion (c.loop-byte.byte-index) (c.loop-byte.value) (omega arith) c.loop-byte.invariant.small

pub with_digit-value-requires-clause-small : goal.with_digit-value-requires-clause-small
with_digit-value-requires-clause-small c =
    let i = c.loop-byte.byte-index in
    let more : 10 * c.loop-byte.value < 10 ^ suc i = omega (arith, c.loop-byte.invariant.small) in
    omega (arith, below-billion (suc i) (10 * c.loop-byte.value) (omega (arith, c.loop-byte-test.true, c.requires)) more)
