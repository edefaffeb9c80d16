use Rattle.std.proofs.Common.{◌≡◌, ◌+◌, drop}
use Rattle.s66_reasons.specs.{end_line}
use Rattle.s66_reasons.proofs.ends.end_line.Given as goal

-- none of the lines so far is one
abbrev pub invariant-loop-step : goal.invariant-loop-step
invariant-loop-step l = record {
  first : end_line l.bound (l.number + 1) (drop l.step-index l.steps) ≡ end_line l.bound 1 l.steps;
  number : l.number ≡ l.step-index;
}
