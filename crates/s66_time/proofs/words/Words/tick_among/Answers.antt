use Rattle.std.proofs.Common.{arith, ap, subst, ◌∙◌, ◌≤◌, ◌≡◌, List, map}
use Rattle.s66_isa.specs.{greatest, Among, Write, Row, IsInRange}
use Rattle.s66_isa.proofs.Lists.{greatest-le}
use Rattle.s66_model.specs.{fits_at, ResultAt, free_after, readers_wait, result_at, next_parcel}
use Rattle.s66_model.proofs.Growth.{results-le, fits_at-le}
use Rattle.s66_time.proofs.ClockPoints.{follows-small, small-turn, start-early, start-le3, point-by}
use Rattle.s66_time.proofs.words.Words.tick_among.Goals as goal

latencies : (writes ws : List Write) → ws ≡ writes → ((w : Write) → Among w writes → (1 ≤ w.latency) × (w.latency ≤ 100)) → greatest (λ (w : Write). w.latency) ws ≤ 100
latencies writes ws is short = greatest-le (λ (w : Write). w.latency) 100 ws (λ w among. (short w (subst (λ vs. Among w vs) is among)).1)

pub results-results-requires-clause-latencies : goal.results-results-requires-clause-latencies
results-results-requires-clause-latencies c = latencies c.row.inside.writes.items c.as_slice.result.now c.as_slice.ensures.value c.row.invariant.latencies

pub results-results-requires-clause-start : goal.results-results-requires-clause-start
results-results-requires-clause-start c =
    let (s, is, turn) = c.requires.follows in
    let issue = c.issue-issue.ensures s is in
    let early = start-early c.args.profile.now s c.args.row.now c.issue-issue.result c.start-start.result turn issue (c.start-start.ensures c.args.profile.now s is turn issue) in
    omega (arith, early)

pub free_after-free-requires : goal.free_after-free-requires
free_after-free-requires c =
    let (s, is, turn) = c.requires.follows in
    let issue = c.issue-issue.ensures s is in
    record {
      few = omega arith;
      start =
          let early = start-early c.args.profile.now s c.args.row.now c.issue-issue.result c.start-start.result turn issue (c.start-start.ensures c.args.profile.now s is turn issue) in
          omega (arith, c.row.invariant.hold, early);
      results =
          let ws = c.as_slice.result.now in
          let start = c.start-start.result in
          let le = start-le3 c.args.profile.now s c.args.row.now c.issue-issue.result start turn issue (c.start-start.ensures c.args.profile.now s is turn issue) in
          let short : greatest (λ (w : Write). w.latency) ws ≤ 100 = latencies c.row.inside.writes.items ws c.as_slice.ensures.value c.row.invariant.latencies in
          omega (arith, turn.early, ap (greatest (λ (d : ResultAt). d.time)) (c.as_slice-2.ensures.value ∙ c.results-results.ensures (readers_wait s) is.read), results-le s start ws (small-turn s turn) short le);
    }

pub returns-clause-value : goal.returns-clause-value
returns-clause-value c = λ s n is turn.
    let p = c.args.profile.now in
    let r = c.args.row.now in
    let start = c.start-start.result in
    let issue = c.issue-issue.ensures s is in
    point-by p s n r c.fits_at.result c.issue-issue.result start c.results-results.result.items c.free_after-free.result
    (c.fits_at.ensures ∙ ap (λ q. fits_at q c.row.inside.parcels) is.parcel ∙ ap (λ (x : Row). fits_at (next_parcel s) x.parcels) c.row.view_is)
    issue (c.start-start.ensures p s is turn issue)
    (c.results-results.ensures (readers_wait s) is.read ∙ ap (map (result_at s start)) c.as_slice.ensures.value ∙ ap (λ (x : Row). map (result_at s start) x.writes) c.row.view_is)
    (c.free_after-free.ensures ∙ ap (free_after start c.row.inside.hold) c.as_slice-2.ensures.value ∙ ap (λ (x : Row). free_after start x.hold c.results-results.result.items) c.row.view_is)

pub returns-clause-early : goal.returns-clause-early
returns-clause-early c =
    let (s, is, turn) = c.requires.follows in
    let issue = c.issue-issue.ensures s is in
    let early = start-early c.args.profile.now s c.args.row.now c.issue-issue.result c.start-start.result turn issue (c.start-start.ensures c.args.profile.now s is turn issue) in
    (omega (arith, early), omega (arith, c.fits_at.ensures, fits_at-le c.args.self.now.progress.parcel c.row.inside.parcels, follows-small c.args.profile.now c.args.self.now c.requires.follows), omega (arith, early))

pub returns-clause-good : goal.returns-clause-good
returns-clause-good c = subst (λ (r : Row). IsInRange r) c.row.view_is c.row.invariant
