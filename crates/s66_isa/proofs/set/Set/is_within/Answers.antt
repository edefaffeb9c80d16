use Rattle.std.proofs.Common.{bit_and, eqb-true, eq-eqb, arith}
use Rattle.s66_isa.proofs.SetBits.{from-shared, shared-low, shared-high}
use Rattle.s66_isa.proofs.set.Set.is_within.Goals as goal

pub returns-then-self-other : goal.returns-then-self-other
returns-then-self-other c =
    let own = c.args.self.now in
    let other = c.args.other.now in (
      λ is. from-shared own other c.if-self-other.true (eqb-true (bit_and own.high other.high) own.high is),
      λ each. eq-eqb (bit_and own.high other.high) own.high (shared-high own other (omega arith) each),
    )

pub returns-else-self-other : goal.returns-else-self-other
returns-else-self-other c =
    let own = c.args.self.now in
    let other = c.args.other.now in (
      λ is. absurd (c.if-self-other.false (eqb-true (bit_and own.low other.low) own.low is)),
      λ each. eq-eqb (bit_and own.low other.low) own.low (shared-low own other (omega arith) each),
    )
