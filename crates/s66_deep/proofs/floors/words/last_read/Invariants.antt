use Rattle.std.proofs.Common.{◌≤◌}
use Rattle.s66_time.specs.{TOTAL_LIMIT}
use Rattle.s66_deep.proofs.floors.words.last_read.Given as goal

abbrev pub invariant-loop-register : goal.invariant-loop-register
invariant-loop-register l = l.last ≤ TOTAL_LIMIT
