use Rattle.std.proofs.Common.{◌≡◌, drop}
use Rattle.s66_isa.specs.{some_of}
use Rattle.s66_moments.specs.{is_of_supposition}
use Rattle.s66_cert.proofs.version.some_supposes.Given as goal

abbrev pub invariant-loop-step : goal.invariant-loop-step
invariant-loop-step l = some_of is_of_supposition (drop l.step-index l.steps) ≡ some_of is_of_supposition l.steps
