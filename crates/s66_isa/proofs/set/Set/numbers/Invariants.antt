use Rattle.std.proofs.Common.{◌≡◌, ◌++◌, length}
use Rattle.s66_isa.specs.{numbers_in}
use Rattle.s66_isa.proofs.set.Set.numbers.Given as goal

abbrev pub invariant-loop-number : goal.invariant-loop-number
invariant-loop-number l = l.numbers.items ++ numbers_in l.rest ≡ numbers_in l.self

abbrev pub decreases-loop-number : goal.decreases-loop-number
decreases-loop-number l = length (numbers_in l.rest)
