use Rattle.std.proofs.Common.{ap, arith, ◌*◌, ◌%◌, ◌^◌, bit_or}
use Rattle.s66_isa.proofs.RegisterBits.{with-few, with-register}
use Rattle.s66_isa.proofs.registers.Registers.with.Goals as goal

pub invariant_of-result : goal.invariant_of-result
invariant_of-result c = record { few = with-few c.args.self.bits c.index.result c.args.self.few (omega arith) }

pub returns : goal.returns
returns c =
    with-register c.args.self _ c.args.register c.index.ensures.digit (ap (λ index. bit_or c.args.self.bits (1 * 2 ^ index % 2 ^ 32)) c.index.ensures.value)
