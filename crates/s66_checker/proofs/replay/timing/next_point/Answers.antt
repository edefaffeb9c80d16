use Rattle.std.proofs.Common.{arith, ap, sym, subst, ◌∙◌, ◌+◌, ◌≤◌, ◌≡◌, ℕ, List, map, reverse}
use Rattle.s66_isa.specs.{greatest, Row, Write, IsInRange}
use Rattle.s66_model.specs.{Problem, Point, ResultAt, end_of, start_of, parcel_of, result_at, free_after}
use Rattle.s66_model.proofs.Growth.{start-le, results-le}
use Rattle.s66_checker.specs.{TOTAL_LIMIT, with_profile, AreTimed}
use Rattle.s66_checker.proofs.Reversed.{greatest-reverse}
use Rattle.s66_checker.proofs.KeptPoints.{latencies-le, timed-small, timed-total}
use Rattle.s66_checker.proofs.Issues.{results-looked, point-looked}
use Rattle.s66_checker.proofs.replay.timing.next_point.Goals as goal

starts : (b : Problem) (xs : List Point) (r : Row) (start : ℕ) → AreTimed xs → start ≡ start_of b (reverse xs) r → start ≤ TOTAL_LIMIT + 3
starts b xs r start timed is = omega (arith, is, start-le b (reverse xs) r (timed-small xs timed), greatest-reverse end_of xs, timed-total xs timed)

latencies : (r : Row) (ws : List Write) → IsInRange r → ws ≡ r.writes → greatest (λ (w : Write). w.latency) ws ≤ 100
latencies r ws good is = subst (λ (vs : List Write). greatest (λ (w : Write). w.latency) vs ≤ 100) (sym is) (latencies-le r good)

pub results-results-requires-clause-latencies : goal.results-results-requires-clause-latencies
results-results-requires-clause-latencies c = latencies _ c.as_slice.result.now c.row.invariant c.as_slice.ensures.value

pub results-results-requires-clause-start : goal.results-results-requires-clause-start
results-results-requires-clause-start c = starts (with_profile c.args.profile.now) c.args.past.now c.args.row c.start-start.result c.requires (c.start-start.ensures (with_profile c.args.profile.now) c.issue-issue.ensures)

pub free_after-free-requires : goal.free_after-free-requires
free_after-free-requires c = record {
  start = omega (arith, c.row.invariant.hold, starts (with_profile c.args.profile.now) c.args.past.now c.args.row c.start-start.result c.requires (c.start-start.ensures (with_profile c.args.profile.now) c.issue-issue.ensures));
  results =
      let b = with_profile c.args.profile.now in
      let xs = c.args.past.now in
      let start = c.start-start.result in
      let ws = c.as_slice.result.now in
      omega (
        arith,
        ap (greatest (λ (d : ResultAt). d.time)) (c.as_slice-2.ensures.value ∙ c.results-results.ensures ∙ results-looked xs start ws),
        results-le (reverse xs) start ws (timed-small xs c.requires) (latencies _ ws c.row.invariant c.as_slice.ensures.value) (omega (arith, start-le b (reverse xs) c.args.row (timed-small xs c.requires), c.start-start.ensures b c.issue-issue.ensures)),
        greatest-reverse end_of xs,
        timed-total xs c.requires,
      );
}

pub parcel-requires : goal.parcel-requires
parcel-requires c = rw c.points.ensures c.requires

pub returns : goal.returns
returns c =
    let b = with_profile c.args.profile.now in
    let xs = c.args.past.now in
    let start = c.start-start.result in
    let results : c.results-results.result.items ≡ map (result_at xs start) c.args.row.writes =
    c.results-results.ensures ∙ ap (map (result_at xs start)) c.as_slice.ensures.value ∙ ap (λ (r : Row). map (result_at xs start) r.writes) c.row.view_is in
    let free = c.free_after-free.ensures ∙ ap (λ (ds : List ResultAt). free_after start c.row.inside.hold ds) c.as_slice-2.ensures.value
    ∙ ap (λ (r : Row). free_after start r.hold c.results-results.result.items) c.row.view_is in
    let parcel = c.parcel.ensures ∙ ap (λ ps. parcel_of (reverse ps) c.row.inside.parcels) c.points.ensures ∙ ap (λ (r : Row). parcel_of (reverse xs) r.parcels) c.row.view_is in
    point-looked b xs c.args.number c.args.row c.parcel.result c.issue-issue.result start c.results-results.result.items c.free_after-free.result parcel c.issue-issue.ensures (c.start-start.ensures b c.issue-issue.ensures) results free
