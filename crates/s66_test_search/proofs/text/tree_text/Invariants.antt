use Rattle.std.proofs.Common.{length}
use Rattle.s66_test_search.proofs.text.tree_text.Given as goal

abbrev pub decreases-loop-line : goal.decreases-loop-line
decreases-loop-line g l = length l.lines
