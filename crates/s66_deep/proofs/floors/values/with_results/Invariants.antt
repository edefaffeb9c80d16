use Rattle.std.proofs.Common.{◌≤◌, length}
use Rattle.s66_isa.specs.{registers_in}
use Rattle.s66_deep.proofs.floors.values.with_results.Given as goal

abbrev pub decreases-loop-register : goal.decreases-loop-register
decreases-loop-register l = length (registers_in l.late)

abbrev pub invariant-loop-register : goal.invariant-loop-register
invariant-loop-register l = l.fn.most ≤ l.most
