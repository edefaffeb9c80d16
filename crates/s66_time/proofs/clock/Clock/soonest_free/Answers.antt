use Rattle.std.proofs.Common.{arith, subst, leb, ltb, ◌≡◌, get_or, ◌-◌}
use Rattle.s66_isa.specs.{tally, copies_of}
use Rattle.s66_model.specs.{Problem, points_of, busy_at}
use Rattle.s66_line.specs.{instrs_of}
use Rattle.s66_time.specs.{IsSoonest, first_unit, points, numbers_of}
use Rattle.s66_time.specs.Ticking.{Ticking}
use Rattle.s66_time.proofs.ClockPoints.{unit-free, unit-greatest, units-small}
use Rattle.s66_time.proofs.Clocks.{clock-words, clock-turn}
use Rattle.s66_time.proofs.clock.Clock.soonest_free.Goals as goal

module _ (c : goal.After-result-1) where
  abbrev b : Problem
  b = record { block = instrs_of c.self.inside.block.now; profile = c.self.inside.profile }

  -- no unit of the kind is free before this one
  soon : IsSoonest b.profile c.args.kind c.self.inside.words.units.words c.soonest-place.result
  soon = record {
    own = c.soonest-place.ensures.own;
    copy = omega (arith, c.soonest-place.ensures.copy, c.at.ensures.value, c.self.invariant.counted c.args.kind);
    least = λ i lt. c.soonest-place.ensures.least i (omega (arith, lt, c.at.ensures.value, c.self.invariant.counted c.args.kind));
  }

pub returns-clause-value : goal.returns-clause-value
returns-clause-value c = λ t.
    let ks = c.self.inside.steps in
    let kind = c.args.kind in
    let w = c.self.inside.words in
    subst (λ (x : Ticking). leb (get_or w.units.words c.soonest-place.result 0) t ≡ ltb (tally (busy_at kind t) (points x)) (copies_of x.profile kind)) c.self.view_is
    (unit-free (b c).profile (points_of (b c) (numbers_of ks)) w kind c.soonest-place.result t (clock-words (b c) w ks c.self.invariant.clock) (soon c))

pub returns-clause-at_most : goal.returns-clause-at_most
returns-clause-at_most c =
    let ks = c.self.inside.steps in
    let kind = c.args.kind in
    let w = c.self.inside.words in
    omega (
      arith,
      unit-greatest (b c).profile kind w.units.words c.soonest-place.result (c.soonest-place.result - first_unit kind) (omega (arith, (soon c).own)) (soon c).copy,
      units-small (b c).profile (points_of (b c) (numbers_of ks)) w kind (clock-words (b c) w ks c.self.invariant.clock),
      (clock-turn (b c) w ks c.self.invariant.clock).early,
    )
