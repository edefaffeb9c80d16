use Rattle.std.proofs.Common.{length}
use Rattle.s66_isa.specs.{numbers_in}
use Rattle.s66_deep.proofs.facts.pairs.Forced.right_after.Given as goal

abbrev pub decreases-loop-n : goal.decreases-loop-n
decreases-loop-n l = length (numbers_in l.new)
