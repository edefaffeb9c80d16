use Rattle.std.proofs.Common.{◌≡◌, ◌++◌, drop}
use Rattle.s66_cert.specs.{step_lines}
use Rattle.s66_cert.proofs.printing.push_steps.Given as goal

abbrev pub invariant-loop-step : goal.invariant-loop-step
invariant-loop-step l = l.out.items ++ step_lines (drop l.step-index l.steps) ≡ l.fn.out.items ++ step_lines l.steps
