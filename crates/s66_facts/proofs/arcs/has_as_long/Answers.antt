use Rattle.std.proofs.Common.{◌≡◌, ◌-◌, true, ◌<◌, ◌≤◌, subst, sym, arith, length, get_or, ◌∙◌}
use Rattle.s66_moments.specs.{later}
use Rattle.s66_facts.specs.{along, is_as_long, no_arc}
use Rattle.s66_facts.proofs.Chained.{along-has, along-lifts, next-fits}
use Rattle.s66_facts.proofs.arcs.has_as_long.Goals as goal

pub returns-then-is_as_long : goal.returns-then-is_as_long
returns-then-is_as_long c = λ told f absorbs.
    let arcs = c.args.arcs.now in
    let place = c.loop-place.place in
    let other = c.args.other.now in
    let long : is_as_long (get_or arcs (place - 1) no_arc) other ≡ true = subst (λ l. is_as_long l other ≡ true) c.arc_at.ensures (sym c.is_as_long.ensures ∙ c.if-is_as_long.true) in
    c.loop-place.invariant.lifts f (f other) (along-has f arcs c.args.before.now c.requires.falling place (f other) (omega (arith, c.loop-place-test.true)) c.loop-place.invariant.fits (absorbs (get_or arcs (place - 1) no_arc) long))

pub loop-place-preserved : goal.loop-place-preserved
loop-place-preserved c =
    let arcs = c.args.arcs.now in
    let before = c.args.before.now in
    let place = c.loop-place.place in
    let some : 0 < place = omega (arith, c.loop-place-test.true) in
    let fits : place ≤ length arcs = c.loop-place.invariant.fits in
    record {
      fits = omega (arith, c.place_before-place.ensures, next-fits arcs before c.requires.falling place some fits, fits);
      lifts = λ f o has. c.loop-place.invariant.lifts f o (along-lifts f arcs before c.requires.falling place o some fits (subst (λ p. later (along f arcs before p p) o ≡ along f arcs before p p) c.place_before-place.ensures has));
    }
