use Rattle.std.proofs.Common.{◌≡◌, [], length}
use Rattle.s66_line.specs.{lines_from}
use Rattle.s66_source.specs.{with_lines}
use Rattle.s66_source.proofs.redefined.Redefined.take_all.Given as goal

-- what the lines so far define, and then those of the rest, is what all define
abbrev pub invariant-loop-line : goal.invariant-loop-line
invariant-loop-line l = with_lines l.self (lines_from [] l.rest) ≡ with_lines l.fn.self (lines_from [] l.text)

abbrev pub decreases-loop-line : goal.decreases-loop-line
decreases-loop-line l = length l.rest
