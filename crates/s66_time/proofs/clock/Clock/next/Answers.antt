use Rattle.std.proofs.Common.{ap, arith, ◌∙◌}
use Rattle.s66_model.specs.{next}
use Rattle.s66_time.specs.{points}
use Rattle.s66_time.proofs.Clocks.{clock-words, clock-turn, clock-next}
use Rattle.s66_time.proofs.clock.Clock.next.Goals as goal

pub returns-clause-value : goal.returns-clause-value
returns-clause-value c = (clock-words _ _ _ c.self.invariant.clock).next ∙ ap (λ t. next (points t)) c.self.view_is

pub returns-clause-at_most : goal.returns-clause-at_most
returns-clause-at_most c = omega (arith, (clock-words _ _ _ c.self.invariant.clock).next, clock-next _ _ _ c.self.invariant.clock, (clock-turn _ _ _ c.self.invariant.clock).early)
