use Rattle.std.proofs.Common.{◌≤◌, length}
use Rattle.s66_isa.specs.{numbers_in}
use Rattle.s66_deep.proofs.floors.values.with_each.Given as goal

abbrev pub decreases-loop-number : goal.decreases-loop-number
decreases-loop-number l = length (numbers_in l.rest)

abbrev pub invariant-loop-number : goal.invariant-loop-number
invariant-loop-number l = l.fn.most ≤ l.most
