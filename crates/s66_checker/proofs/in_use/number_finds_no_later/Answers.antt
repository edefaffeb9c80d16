use Rattle.std.proofs.Common.{ℕ, List, ◌∙◌, arith, ap, sym}
use Rattle.s66_isa.specs.{Row}
use Rattle.s66_model.specs.{Problem, Point, copies, next, point_of, points_of}
use Rattle.s66_moments.specs.{issue_at_least, start_at_least}
use Rattle.s66_facts.specs.{known_of as known_in}
use Rattle.s66_checker.proofs.FoundInUse.{found-stated}
use Rattle.s66_checker.proofs.InUseTests.{finds-still}
use Rattle.s66_checker.proofs.in_use.number_finds_no_later.Goals as goal

pub returns-then-finds_no_later : goal.returns-then-finds_no_later
returns-then-finds_no_later c =
    let b = c.args.at.now.problem in
    let n = c.args.n in
    let name : List ℕ = c.args.own.now.numbers in
    let at : List ℕ = c.args.at.now.numbers in
    let t : Point = point_of b (points_of b at) n in
    let there = c.point.view_is ∙ c.next_point-point.ensures.value in
    let same = found-stated _ _ _ _ _ _ _ _ _ _ _ _ (c.copies-copies.ensures.value ∙ ap (λ (r : Row). copies b r.kind) (c.row.view_is ∙ c.row-row.ensures)) (c.past-past.ensures.value ∙ ap (λ (p : Problem). points_of p name) c.requires.same) c.past-other.ensures.value (ap (λ (p : Point). p.issue) there) (ap (λ (p : Point). p.start) there) c.row-row.ensures in
    sym (finds-still b (points_of b name) (points_of b at) t.issue t.start (issue_at_least b (known_in c.args.known.now) at n) (start_at_least b (known_in c.args.known.now) at n) n (omega arith) (omega arith) (sym same ∙ sym c.finds_no_later.ensures ∙ c.if-finds_no_later.true))

pub returns : goal.returns
returns c =
    let b = c.args.at.now.problem in
    let known = known_in c.args.known.now in
    let at : List ℕ = c.args.at.now.numbers in
    let there = c.point.view_is ∙ c.next_point-point.ensures.value in
    c.finds_no_later-2.ensures
    ∙ found-stated _ _ _ c.max-issue.result c.max-start.result _ _ _ _ (issue_at_least b known at c.args.n) (start_at_least b known at c.args.n) _ (c.copies-copies.ensures.value ∙ ap (λ (r : Row). copies b r.kind) (c.row.view_is ∙ c.row-row.ensures)) (c.past-past.ensures.value ∙ ap (λ (p : Problem). points_of p c.args.own.now.numbers) c.requires.same) c.past-other.ensures.value
    (omega (arith, c.max-issue.ensures, c.next.ensures.value, ap next c.points.ensures.value, c.parcels_before.ensures.value, ap (λ (p : Point). p.issue) there))
    (omega (arith, c.max-start.ensures, c.next.ensures.value, ap next c.points.ensures.value, c.parcels_before.ensures.value, ap (λ (p : Point). p.start) there))
    c.row-row.ensures
