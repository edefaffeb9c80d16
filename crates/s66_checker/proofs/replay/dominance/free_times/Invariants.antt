use Rattle.std.proofs.Common.{◌≡◌, ◌≤◌, reverse, take, length}
use Rattle.s66_model.specs.{free_times}
use Rattle.s66_checker.proofs.replay.dominance.free_times.Given as goal

-- those of the points so far
abbrev pub invariant-loop-point : goal.invariant-loop-point
invariant-loop-point l = record {
  value : l.times ≡ free_times l.kind (reverse (take l.point-index l.points));
  few : length l.times ≤ l.point-index;
}
