use Rattle.std.proofs.Common.{◌≡◌, ◌&&◌, ◌≤◌, ◌<◌, [], length}
use Rattle.s66_isa.specs.{BLOCK_LIMIT}
use Rattle.s66_line.specs.{lines_from}
use Rattle.s66_source.specs.{SOURCE_LINES_LIMIT, flagged_from, is_continued, put_lines, lines_step, state}
use Rattle.s66_source.proofs.reader.Reader.take_all.Given as goal

-- the lines so far, and then those of the rest, are those of all
abbrev pub invariant-loop-line : goal.invariant-loop-line
invariant-loop-line l = record {
  rest : lines_step (state l.self) (flagged_from l.self.cut l.self.standing (lines_from [] l.rest)) ≡ lines_step (state l.fn.self) (flagged_from l.fn.self.cut l.fn.self.standing (lines_from [] l.text));
  kept : put_lines l.self.after_code l.self.kept (flagged_from l.self.cut l.self.standing (lines_from [] l.rest))
      ≡ put_lines l.fn.self.after_code l.fn.self.kept (flagged_from l.fn.self.cut l.fn.self.standing (lines_from [] l.text));
  few : length l.self.entries.items < BLOCK_LIMIT;
  lines : l.self.kept.count ≤ SOURCE_LINES_LIMIT;
  bodies : l.self.standing.bodies ≤ l.self.kept.count;
  continued : (l.self.cut && l.continued) ≡ (l.self.cut && is_continued (lines_from [] l.rest));
  within : length l.rest ≤ length l.text;
}

abbrev pub decreases-loop-line : goal.decreases-loop-line
decreases-loop-line l = length l.rest
