use Rattle.std.proofs.Common.{ℕ, List, ◌++◌, ◌∙◌, ap, decimal, get_or, append-nil}
use Rattle.s66_reasons.proofs.Listed.{listed-more}
use Rattle.s66_reasons.proofs.facts.push_numbers.Goals as goal

pub loop-place-preserved : goal.loop-place-preserved
loop-place-preserved c =
    let digits = decimal (get_or c.args.numbers.now c.loop-place.place 0) in
    listed-more decimal c.args.numbers.now c.loop-place.place _ _ _ _ c.loop-place-test.true
    (c.in_ok-push_field.ensures ∙ ap (λ (xs : List ℕ). xs ++ digits) (append-nil c.loop-place.out.items)) c.in_ok-extend_from_slice.ensures.items c.separator.ensures
    ∙ c.loop-place.invariant
