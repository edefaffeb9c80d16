use Rattle.std.proofs.Common.{◌≡◌, ◌+◌, ◌<◌, ◌∙◌, get_or, refl, subst, arith, inl, inr}
use Rattle.s66_isa.specs.{copies_of, kind_number}
use Rattle.s66_isa.proofs.Lists.{cases_le}
use Rattle.s66_time.specs.{first_unit}
use Rattle.s66_time.proofs.Cleared.{kind-at}
use Rattle.s66_time.proofs.WorkOfKinds.{kinds-few}
use Rattle.s66_time.proofs.units.UnitWords.clear_all.Goals as goal

pub loop-kind-init : goal.loop-kind-init
loop-kind-init c = record { zeros = λ kind i lt few. absurd (omega (arith, lt)); size = refl }

pub loop-kind-preserved : goal.loop-kind-preserved
loop-kind-preserved c = record {
  zeros = λ kind i lt few.
      elim (cases_le (kind_number kind + 1) c.loop-kind.kind-index) [
        | inl le ↦ c.clear.ensures.others (first_unit kind + i) (c.loop-kind.invariant.zeros kind i (omega (arith, le)) few)
        | inr past ↦
            subst (λ k. i < copies_of c.args.profile.now k → get_or c.clear.new.self.words (first_unit k + i) 0 ≡ 0) (kind-at kind c.loop-kind.kind-index (omega (arith, lt, past)))
            (λ within. c.clear.ensures.own i (omega (arith, within, c.copies.ensures.value))) few
      ];
  size = c.clear.ensures.size ∙ c.loop-kind.invariant.size;
}

pub returns-clause-zeros : goal.returns-clause-zeros
returns-clause-zeros c = λ kind i few. c.loop-kind.invariant.zeros kind i (omega (arith, c.loop-kind-test.false, kinds-few kind)) few

pub returns-clause-size : goal.returns-clause-size
returns-clause-size c = c.loop-kind.invariant.size
