use Rattle.std.proofs.Common.{ℕ, ◌+◌, true≢false, refl, sym, ap, arith, inl, inr, ◌∙◌, ne_eqb}
use Rattle.std.proofs.lemmas.Bool.{cases_eq}
use Rattle.s66_isa.specs.{has, Set, numbers_in}
use Rattle.s66_deep.proofs.classes.those_of.Goals.{then-is_in, else-is_in}
use Rattle.s66_deep.proofs.classes.those_of.Goals as goal

pub loop-place-init : goal.loop-place-init
loop-place-init c = λ m there. absurd (true≢false (sym there ∙ ap (has m) c.empty-those.ensures))

pub loop-place-preserved : goal.loop-place-preserved
loop-place-preserved c = λ m there.
    let k : ℕ = c.loop-place.place in
    elim c.if-is_in.branch [
      | then-is_in w ↦ elim (cases_eq m (k + 1)) [
        | inl here ↦ (omega (arith, here), omega (arith, here, c.loop-place-test.true))
        | inr other ↦ c.loop-place.invariant m (sym (w.with-those.ensures m ∙ rw (ne_eqb m (k + 1) other) refl) ∙ (sym (ap (λ (s : Set). has m (numbers_in s)) w.those-is) ∙ there))
      ]
      | else-is_in w ↦ c.loop-place.invariant m (sym (ap (λ (s : Set). has m (numbers_in s)) w.those-is) ∙ there)
    ]
