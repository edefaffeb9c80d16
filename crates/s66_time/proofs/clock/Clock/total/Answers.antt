use Rattle.std.proofs.Common.{ap, arith, ◌∙◌}
use Rattle.s66_model.specs.{total}
use Rattle.s66_time.specs.{points}
use Rattle.s66_time.proofs.Clocks.{clock-words, clock-turn}
use Rattle.s66_time.proofs.clock.Clock.total.Goals as goal

pub returns-clause-value : goal.returns-clause-value
returns-clause-value c = (clock-words _ _ _ c.self.invariant.clock).total ∙ ap (λ t. total (points t)) c.self.view_is

pub returns-clause-at_most : goal.returns-clause-at_most
returns-clause-at_most c = omega (arith, (clock-words _ _ _ c.self.invariant.clock).total, (clock-turn _ _ _ c.self.invariant.clock).early)
