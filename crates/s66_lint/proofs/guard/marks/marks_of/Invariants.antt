use Rattle.std.proofs.Common.{◌≡◌, length}
use Rattle.s66_line.specs.{lines_of}
use Rattle.s66_lint.proofs.guard.marks.marks_of.Given as goal

abbrev pub invariant-loop-region : goal.invariant-loop-region
invariant-loop-region l = length l.marks.items ≡ length (lines_of l.text)
