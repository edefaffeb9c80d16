use Rattle.std.proofs.Common.{List, ℕ, ◌%◌, ◌≡◌, ◌≤◌, ◌<◌, ◌⊎◌, ◌∙◌, arith, ap, sym, subst, inl, inr, reverse}
use Rattle.s66_model.specs.{IsBeginning, Problem, next, next_parcel, points_of, total_of}
use Rattle.s66_facts.specs.{known_of as known_in}
use Rattle.s66_checker.proofs.FoundInUse.{in_use-stated}
use Rattle.s66_checker.proofs.in_use.dominates_in_use.Goals.{else-total-low-via-then-total-low+else-total, else-total-low-via-else-total-low}
use Rattle.s66_checker.proofs.in_use.dominates_in_use.Goals as goal

pub returns : goal.returns
returns c =
    let b : Problem = c.args.at.now.problem in
    let name : List ℕ = c.args.own.now.numbers in
    let at : List ℕ = c.args.at.now.numbers in
    let own : reverse c.points-first.result.now ≡ points_of b name = c.points-first.ensures.value ∙ ap (λ (p : Problem). points_of p name) c.requires.same in
    let begins : IsBeginning b.block name = subst (λ (p : Problem). IsBeginning p.block name) c.requires.same c.points-first.ensures.begins in
    let other : reverse c.points-second.result.now ≡ points_of b at = c.points-second.ensures.value in
    let slot : next (points_of b name) ≤ next (points_of b at) = omega (arith, c.if-next.false, c.next.ensures.value ∙ ap next own, c.next-2.ensures.value ∙ ap next other) in
    let phase : next_parcel (points_of b name) % 4 ≡ next_parcel (points_of b at) % 4 =
    ap (λ k. k % 4) (sym (c.next_parcel.ensures.value ∙ ap next_parcel own)) ∙ c.if-next_parcel.false ∙ ap (λ k. k % 4) (c.next_parcel-2.ensures.value ∙ ap next_parcel other) in
    let same = ap (λ (p : Problem). total_of p name) c.requires.same in
    let total : (total_of b name < c.args.low) ⊎ (total_of b name ≤ total_of b at) = elim c.else-total-low.branch [
      | else-total-low-via-then-total-low+else-total w ↦ inr (omega (arith, w.if-total.false, w.total-then-total-low.ensures, w.total-then-total-low-2.ensures, same))
      | else-total-low-via-else-total-low w ↦ inl (omega (arith, w.if-total-low.false, c.total.ensures, same))
    ] in
    in_use-stated b c.args.low (known_in c.args.known.now) name at c.all_find_no_later.result begins c.points-second.ensures.begins (sym c.has_set_of.ensures ∙ c.if-not-has_set_of.false) slot phase total c.all_find_no_later.ensures
