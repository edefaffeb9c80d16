use Rattle.std.proofs.Common.{ap, arith, ◌∙◌, ◌+◌, ◌≡◌}
use Rattle.s66_isa.specs.{weigh, copies_of}
use Rattle.s66_model.specs.{Problem, points_of, next, rest_busy}
use Rattle.s66_line.specs.{instrs_of}
use Rattle.s66_time.specs.{first_unit, points, numbers_of}
use Rattle.s66_time.specs.Ticking.{Ticking}
use Rattle.s66_time.proofs.ClockPoints.{units-small, busy-words, only-unit, unit-greatest}
use Rattle.s66_time.proofs.Clocks.{clock-words, clock-turn, clock-fits, clock-next}
use Rattle.s66_time.proofs.clock.Clock.free.Goals as goal

one : (c : goal.After-max) → copies_of c.self.inside.profile c.args.kind ≡ 1
one c = ap (λ (t : Ticking). copies_of t.profile c.args.kind) c.self.view_is ∙ c.requires

pub returns-clause-value : goal.returns-clause-value
returns-clause-value c =
    let b : Problem = record { block = instrs_of c.self.inside.block.now; profile = c.self.inside.profile } in
    let s = points_of b (numbers_of c.self.inside.steps) in
    let words = clock-words b _ _ c.self.invariant.clock in
    let inside : c.max.result ≡ next s + weigh (rest_busy c.args.kind (next s)) s =
    omega (
      arith,
      c.max.ensures,
      c.first.ensures,
      only-unit b.profile c.args.kind c.self.inside.words.units.words c.self.inside.words.progress.next words.size (one c),
      busy-words _ s _ c.args.kind words (clock-fits _ _ _ c.args.kind c.self.invariant.clock),
      words.next,
    )
    in
    inside ∙ ap (λ t. next (points t) + weigh (rest_busy c.args.kind (next (points t))) (points t)) c.self.view_is

pub returns-clause-at_most : goal.returns-clause-at_most
returns-clause-at_most c =
    let words = clock-words _ _ _ c.self.invariant.clock in
    omega (
      arith,
      c.max.ensures,
      c.first.ensures,
      unit-greatest c.self.inside.profile c.args.kind c.self.inside.words.units.words (first_unit c.args.kind) 0 (omega arith) (omega (arith, one c)),
      units-small _ _ _ c.args.kind words,
      words.next,
      clock-next _ _ _ c.self.invariant.clock,
      (clock-turn _ _ _ c.self.invariant.clock).early,
    )
