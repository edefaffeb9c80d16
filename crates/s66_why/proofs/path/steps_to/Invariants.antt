use Rattle.std.proofs.Common.{◌≡◌, ◌-◌, ◌≤◌, ◌++◌, length, take, reverse}
use Rattle.s66_why.specs.{steps_from}
use Rattle.s66_why.proofs.path.steps_to.Given as goal

abbrev pub invariant-loop-back : goal.invariant-loop-back
invariant-loop-back l = record {
  items : l.steps.items ++ steps_from l.from (reverse (take (length l.milestones - l.back) l.milestones)) ≡ steps_from 0 (reverse l.milestones);
  few : length l.steps.items ≤ l.back;
}
