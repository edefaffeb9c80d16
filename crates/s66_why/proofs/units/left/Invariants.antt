use Rattle.std.proofs.Common.{◌≡◌, ◌≤◌, ◌++◌, drop, length}
use Rattle.s66_why.specs.{left_from}
use Rattle.s66_why.proofs.units.left.Given as goal

abbrev pub invariant-loop-work : goal.invariant-loop-work
invariant-loop-work l = record {
  items : l.left.items ++ left_from l.free (drop l.work-index l.works) ≡ left_from 0 l.works;
  few : length l.left.items ≤ l.work-index;
}
