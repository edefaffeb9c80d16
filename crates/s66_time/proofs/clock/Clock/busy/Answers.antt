use Rattle.std.proofs.Common.{ap, arith, ◌∙◌}
use Rattle.s66_isa.specs.{weigh}
use Rattle.s66_model.specs.{next, rest_busy}
use Rattle.s66_time.specs.{points}
use Rattle.s66_time.proofs.ClockPoints.{units-small, busy-words}
use Rattle.s66_time.proofs.Clocks.{clock-words, clock-turn, clock-fits}
use Rattle.s66_time.proofs.clock.Clock.busy.Goals as goal

pub rest-requires : goal.rest-requires
rest-requires c = omega (arith, units-small _ _ _ c.args.kind (clock-words _ _ _ c.self.invariant.clock), (clock-turn _ _ _ c.self.invariant.clock).early)

pub returns-clause-value : goal.returns-clause-value
returns-clause-value c =
    c.rest.ensures.value ∙ busy-words _ _ _ c.args.kind (clock-words _ _ _ c.self.invariant.clock) (clock-fits _ _ _ c.args.kind c.self.invariant.clock)
    ∙ ap (λ t. weigh (rest_busy c.args.kind (next (points t))) (points t)) c.self.view_is
