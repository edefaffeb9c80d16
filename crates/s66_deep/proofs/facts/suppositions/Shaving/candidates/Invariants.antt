use Rattle.std.proofs.Common.{length}
use Rattle.s66_isa.specs.{numbers_in}
use Rattle.s66_deep.proofs.facts.suppositions.Shaving.candidates.Given as goal

abbrev pub decreases-loop-first : goal.decreases-loop-first
decreases-loop-first l = length (numbers_in l.rest)
