use Rattle.std.proofs.Common.{length}
use Rattle.s66_isa.specs.{numbers_in}
use Rattle.s66_deep.proofs.facts.suppositions.Shaving.push_candidates.Given as goal

abbrev pub decreases-loop-second : goal.decreases-loop-second
decreases-loop-second l = length (numbers_in l.others)
