use Rattle.std.proofs.Common.{length}
use Rattle.s66_answer.proofs.answers.line_count.Given as goal

abbrev pub decreases-loop-count : goal.decreases-loop-count
decreases-loop-count l = length l.lines
