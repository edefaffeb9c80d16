use Rattle.std.proofs.Common.{◌≡◌, ◌+◌, get_or, set, subst, arith, inl, inr, refl, ◌∙◌, length-set}
use Rattle.s66_isa.proofs.Lists.{cases_le}
use Rattle.s66_time.specs.{first_unit}
use Rattle.s66_time.proofs.Cleared.{zero-set, zero-stays}
use Rattle.s66_time.proofs.units.UnitWords.clear.Goals as goal

pub loop-copy-init : goal.loop-copy-init
loop-copy-init c = record { own = λ i lt. absurd (omega (arith, lt)); others = λ j is. is; size = refl }

pub loop-copy-preserved : goal.loop-copy-preserved
loop-copy-preserved c =
    let ws = c.loop-copy.self.words in
    let place = c.first_unit-first.result + c.loop-copy.copy in
    record {
      own = λ i lt.
          elim (cases_le (i + 1) c.loop-copy.copy) [
            | inl le ↦ zero-stays ws place (first_unit c.args.kind + i) (c.loop-copy.invariant.own i (omega (arith, le)))
            | inr past ↦ subst (λ j. get_or (set ws place 0) j 0 ≡ 0) (omega (arith, c.first_unit-first.ensures.value, lt, past)) (zero-set ws place)
          ];
      others = λ j is. zero-stays ws place j (c.loop-copy.invariant.others j is);
      size = length-set ws place 0 ∙ c.loop-copy.invariant.size;
    }

pub returns : goal.returns
returns c = record {
  own = λ i lt. c.loop-copy.invariant.own i (omega (arith, lt, c.loop-copy-test.false));
  others = c.loop-copy.invariant.others;
  size = c.loop-copy.invariant.size;
}
