use Rattle.std.proofs.Common.{◌≡◌, ◌≤◌, ◌+◌, [], length}
use Rattle.s66_line.specs.{lines_from, lines_of}
use Rattle.s66_lint.proofs.findings.count_lines.Given as goal

abbrev pub invariant-loop-more : goal.invariant-loop-more
invariant-loop-more l = record {
  so_far : l.count + length (lines_from [] l.rest) ≡ length (lines_of l.text);
  few : l.count + length l.rest ≤ length l.text;
}

abbrev pub decreases-loop-more : goal.decreases-loop-more
decreases-loop-more l = length l.rest
