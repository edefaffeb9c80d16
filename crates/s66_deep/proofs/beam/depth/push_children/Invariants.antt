use Rattle.std.proofs.Common.{length}
use Rattle.s66_isa.specs.{numbers_in}
use Rattle.s66_deep.proofs.beam.depth.push_children.Given as goal

abbrev pub decreases-loop-number : goal.decreases-loop-number
decreases-loop-number l = length (numbers_in l.rest)
