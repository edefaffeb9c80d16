use Rattle.std.proofs.Common.{◌≡◌, ◌≤◌, ◌++◌, drop, length}
use Rattle.s66_why.specs.{taken_from}
use Rattle.s66_why.proofs.units.taken.Given as goal

abbrev pub invariant-loop-work : goal.invariant-loop-work
invariant-loop-work l = record {
  items : l.taken.items ++ taken_from l.free (drop l.work-index l.works) ≡ taken_from 0 l.works;
  few : length l.taken.items ≤ l.work-index;
}
