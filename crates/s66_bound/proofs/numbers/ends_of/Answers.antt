use Rattle.std.proofs.Common.{◌+◌, ◌-◌, ◌≡◌, arith, sym, subst, ap, true≢false, ◌∙◌, inl, inr, get_or}
use Rattle.std.proofs.lemmas.Bool.{cases_eq}
use Rattle.s66_isa.specs.{has}
use Rattle.s66_bound.proofs.LeastWords.{AreOf, of-push}
use Rattle.s66_bound.proofs.numbers.ends_of.Goals.{then-words-position, else-words-position}
use Rattle.s66_bound.proofs.numbers.ends_of.Goals as goal

pub loop-place-preserved : goal.loop-place-preserved
loop-place-preserved c = λ m low high.
    elim (cases_eq m (c.loop-place.place + 1)) [
      | inl here ↦ (let e : m - 1 ≡ c.loop-place.place = omega (arith, here) in omega (arith, c.min-least.ensures, ap (λ k. get_or c.args.words.now k 0) e))
      | inr other ↦ omega (arith, c.min-least.ensures, c.loop-place.invariant m low (omega (arith, high, other)))
    ]

pub loop-position-init : goal.loop-position-init
loop-position-init c = λ n is. absurd (true≢false (sym is ∙ ap (has n) c.empty-ends.ensures))

pub loop-position-preserved : goal.loop-position-preserved
loop-position-preserved c =
    let words = c.args.words.now in
    let least = c.loop-place.least in
    elim c.if-words-position.branch [
      | then-words-position w ↦ subst (AreOf words least) (sym w.ends-is) (of-push words least c.loop-position.position c.loop-position.ends w.with-ends.result w.if-words-position.true w.with-ends.ensures c.loop-position.invariant)
      | else-words-position w ↦ subst (AreOf words least) (sym w.ends-is) c.loop-position.invariant
    ]

pub returns : goal.returns
returns c = λ n m is low high. omega (arith, c.loop-position.invariant n is, c.loop-place.invariant m low (omega (arith, high, c.loop-place-test.false)))
