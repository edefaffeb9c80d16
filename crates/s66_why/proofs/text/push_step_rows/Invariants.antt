use Rattle.std.proofs.Common.{◌≡◌, ◌++◌, drop, flat_map}
use Rattle.s66_why.specs.{step_row}
use Rattle.s66_why.proofs.text.push_step_rows.Given as goal

abbrev pub invariant-loop-step : goal.invariant-loop-step
invariant-loop-step l =
    l.out.items ++ flat_map (step_row l.block) (drop l.step-index l.steps) ≡ l.fn.out.items ++ flat_map (step_row l.block) l.steps
