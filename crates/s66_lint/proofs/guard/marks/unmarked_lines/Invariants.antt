use Rattle.std.proofs.Common.{◌≡◌, ◌+◌, [], length}
use Rattle.s66_line.specs.{lines_from, lines_of}
use Rattle.s66_lint.proofs.guard.marks.unmarked_lines.Given as goal

abbrev pub invariant-loop-more : goal.invariant-loop-more
invariant-loop-more l = length l.marks.items + length (lines_from [] l.rest) ≡ length (lines_of l.text)

abbrev pub decreases-loop-more : goal.decreases-loop-more
decreases-loop-more l = length l.rest
