use Rattle.std.proofs.Common.{◌≡◌, ◌≤◌, [], length}
use Rattle.s66_line.specs.{lines_from}
use Rattle.s66_source.specs.{is_continued}
use Rattle.s66_source.proofs.continued.begins_continued.Given as goal

-- the rest goes on if all of it does
abbrev pub invariant-loop-line : goal.invariant-loop-line
invariant-loop-line l = record {
  same : is_continued (lines_from [] l.rest) ≡ is_continued (lines_from [] l.text);
  within : length l.rest ≤ length l.text;
}

abbrev pub decreases-loop-line : goal.decreases-loop-line
decreases-loop-line l = length l.rest
