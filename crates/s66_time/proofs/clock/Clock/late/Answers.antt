use Rattle.std.proofs.Common.{ap, ltb, ◌∙◌}
use Rattle.s66_model.specs.{done_of}
use Rattle.s66_time.specs.{points}
use Rattle.s66_time.proofs.Clocks.{clock-words}
use Rattle.s66_time.proofs.clock.Clock.late.Goals as goal

pub returns : goal.returns
returns c = λ r low. c.after.ensures _ (clock-words _ _ _ c.self.invariant.clock).done r low ∙ ap (λ t. ltb c.args.time (done_of (points t) r)) c.self.view_is
