use Rattle.std.proofs.Common.{◌≡◌, ◌+◌, ◌≤◌, take, reverse}
use Rattle.s66_model.specs.{readers_wait}
use Rattle.s66_time.specs.{TOTAL_LIMIT}
use Rattle.s66_why.proofs.placed.readers_wait.Given as goal

abbrev pub invariant-loop-point : goal.invariant-loop-point
invariant-loop-point l = record {
  value : l.wait ≡ readers_wait (reverse (take l.point-index l.earlier)) l.register;
  at_most : l.wait ≤ TOTAL_LIMIT + 1;
}
