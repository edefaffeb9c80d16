use Rattle.std.proofs.Common.{ap, refl, eqb-true, eq-eqb, arith}
use Rattle.s66_isa.specs.{numbers_in, has, Set}
use Rattle.s66_isa.proofs.SetBits.{alike-low, alike-high}
use Rattle.s66_isa.proofs.set.Set.is_same.Goals as goal

pub returns-then-self-other : goal.returns-then-self-other
returns-then-self-other c =
    let own = c.args.self.now in
    let other = c.args.other.now in (
      λ is m. ap (λ (s : Set). has m (numbers_in s)) (rw (c.if-self-other.true, eqb-true own.high other.high is) refl),
      λ each. eq-eqb own.high other.high (alike-high own other (omega arith) (omega arith) each),
    )

pub returns-else-self-other : goal.returns-else-self-other
returns-else-self-other c =
    let own = c.args.self.now in
    let other = c.args.other.now in (
      λ is. absurd (c.if-self-other.false (eqb-true own.low other.low is)),
      λ each. absurd (c.if-self-other.false (alike-low own other (omega arith) (omega arith) each)),
    )
