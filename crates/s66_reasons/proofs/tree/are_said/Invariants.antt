use Rattle.std.proofs.Common.{◌≡◌, length}
use Rattle.s66_isa.specs.{every}
use Rattle.s66_reasons.specs.{is_line_said}
use Rattle.s66_reasons.proofs.tree.are_said.Given as goal

abbrev pub invariant-loop-line : goal.invariant-loop-line
invariant-loop-line l = every (is_line_said l.count) l.lines ≡ every (is_line_said l.count) l.fn.lines

abbrev pub decreases-loop-line : goal.decreases-loop-line
decreases-loop-line l = length l.lines
