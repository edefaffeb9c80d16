use Rattle.std.proofs.Common.{◌≤◌, ◌+◌, [], false, length}
use Rattle.s66_line.specs.{lines_from}
use Rattle.s66_source.specs.{flagged_from}
use Rattle.s66_lint.specs.{guarded_lines, marked_lines, written_from, Finishes, marks_of}
use Rattle.s66_lint.proofs.SwitchedLines.{standing}
use Rattle.s66_lint.proofs.guard.guard.print_guarded.Given as goal

-- what is printed, and what comes of the rest, is all
abbrev pub invariant-loop-line : goal.invariant-loop-line
invariant-loop-line l = record {
  complete : Finishes l.printed (written_from l.inside (marked_lines (marks_of l.left) (flagged_from false (standing l.off) (lines_from [] l.rest)))) (guarded_lines (marks_of l.marks) l.text);
  ends : l.printed.regions + length l.rest ≤ length l.text;
  guarded : l.printed.lines + length l.rest ≤ length l.text;
}

abbrev pub decreases-loop-line : goal.decreases-loop-line
decreases-loop-line l = length l.rest
