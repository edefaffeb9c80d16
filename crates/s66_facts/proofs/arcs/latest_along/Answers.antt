use Rattle.std.proofs.Common.{ℕ, ◌≡◌, ◌-◌, ◌<◌, ◌≤◌, ap, arith, length, get_or, ◌∙◌, Option}
use Rattle.s66_moments.specs.{KnownArc, later}
use Rattle.s66_facts.specs.{along, no_arc, by_arc, time_along}
use Rattle.s66_facts.proofs.Chained.{along-next, next-fits}
use Rattle.s66_facts.proofs.arcs.latest_along.Goals as goal

pub loop-place-preserved : goal.loop-place-preserved
loop-place-preserved c =
    let arcs = c.args.arcs.now in
    let before = c.args.before.now in
    let place = c.loop-place.place in
    let f : KnownArc → Option ℕ = by_arc c.args.direction (time_along c.args.direction c.args.times.now c.args.first) c.args.to.now in
    let some : 0 < place = omega (arith, c.loop-place-test.true) in
    let fits : place ≤ length arcs = c.loop-place.invariant.fits in
    let now : c.later-latest.result ≡ later c.loop-place.latest (f (get_or arcs (place - 1) no_arc)) =
    c.later-latest.ensures ∙ ap (later c.loop-place.latest) (c.by_arc-time.ensures ∙ ap f c.arc_at.ensures) in
    record {
      fits = omega (arith, c.place_before-place.ensures, next-fits arcs before c.requires.falling place some fits, fits);
      whole = ap (λ o. later o (along f arcs before c.place_before-place.result c.place_before-place.result)) now
          ∙ (ap (λ p. later (later c.loop-place.latest (f (get_or arcs (place - 1) no_arc))) (along f arcs before p p)) c.place_before-place.ensures
          ∙ along-next f arcs before c.requires.falling place c.loop-place.latest (along f arcs before c.args.last c.args.last) some fits c.loop-place.invariant.whole);
    }
