use Rattle.std.proofs.Common.{◌≡◌, ◌≤◌, ◌+◌, ◌-◌, ◌++◌, [], length, take, vec_len}
use Rattle.s66_line.specs.{lines_from, lines_of}
use Rattle.s66_source.specs.{is_continued, SOURCE_LINES_LIMIT}
use Rattle.s66_lint.specs.{alone_from, alone_lines}
use Rattle.s66_lint.proofs.deck.lines.Lines.of.Given as goal

-- what is known of the lines so far, and then of the rest, is what is known of all
abbrev pub invariant-loop-row : goal.invariant-loop-row
invariant-loop-row l = record {
  whole : l.alone.items ++ take (SOURCE_LINES_LIMIT - length l.alone.items) (alone_from l.standing (lines_from [] l.rest)) ≡ alone_lines l.text;
  each : vec_len l.lines ≡ length l.alone.items;
  so_far : length l.alone.items + length (lines_from [] l.rest) ≡ length (lines_of l.text);
  few : length l.alone.items ≤ SOURCE_LINES_LIMIT;
  bodies : l.standing.bodies ≤ length l.alone.items;
  continued : l.continued ≡ is_continued (lines_from [] l.rest);
}

abbrev pub decreases-loop-row : goal.decreases-loop-row
decreases-loop-row l = length l.rest
