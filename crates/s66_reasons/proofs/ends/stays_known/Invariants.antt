use Rattle.std.proofs.Common.{◌≡◌, drop}
use Rattle.s66_reasons.specs.{stays_known}
use Rattle.s66_reasons.proofs.ends.stays_known.Given as goal

abbrev pub invariant-loop-step : goal.invariant-loop-step
invariant-loop-step l = stays_known (drop l.step-index l.steps) ≡ stays_known l.steps
