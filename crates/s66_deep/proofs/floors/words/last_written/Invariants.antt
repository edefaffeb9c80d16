use Rattle.std.proofs.Common.{◌≤◌}
use Rattle.s66_time.specs.{TOTAL_LIMIT}
use Rattle.s66_deep.proofs.floors.words.last_written.Given as goal

abbrev pub invariant-loop-write : goal.invariant-loop-write
invariant-loop-write l = l.last ≤ TOTAL_LIMIT
