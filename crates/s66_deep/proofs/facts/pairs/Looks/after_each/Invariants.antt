use Rattle.std.proofs.Common.{length}
use Rattle.s66_isa.specs.{numbers_in}
use Rattle.s66_deep.proofs.facts.pairs.Looks.after_each.Given as goal

abbrev pub decreases-loop-m : goal.decreases-loop-m
decreases-loop-m l = length (numbers_in l.rest)
