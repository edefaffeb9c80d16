use Rattle.std.proofs.Common.{◌≡◌, ◌+◌, length}
use Rattle.s66_isa.specs.{tally}
use Rattle.s66_reasons.specs.{is_split}
use Rattle.s66_reasons.proofs.tree.count_splits.Given as goal

abbrev pub invariant-loop-line : goal.invariant-loop-line
invariant-loop-line l = l.count + tally is_split l.lines ≡ tally is_split l.fn.lines

abbrev pub decreases-loop-line : goal.decreases-loop-line
decreases-loop-line l = length l.lines
