use Rattle.std.proofs.Common.{◌≡◌, ◌≤◌, ◌-◌, ◌++◌, drop}
use Rattle.s66_line.specs.{line_of}
use Rattle.s66_source.specs.{notes_text, classed_lines}
use Rattle.s66_source.proofs.keeper.Keeper.push_notes.Given as goal

-- the notes so far, and then those in the lines that are left, are all
abbrev pub invariant-loop-passed : goal.invariant-loop-passed
invariant-loop-passed l = record {
  text : l.out.items ++ notes_text l.block (drop l.passed (classed_lines l.self.source)) ≡ l.fn.out.items ++ notes_text l.block (classed_lines l.self.source);
  from : line_of l.block 1 ≤ l.passed;
}

abbrev pub decreases-loop-passed : goal.decreases-loop-passed
decreases-loop-passed l = l.end - l.passed
