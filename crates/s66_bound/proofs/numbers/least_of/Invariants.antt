use Rattle.std.proofs.Common.{◌≡◌, ◌-◌, ◌^◌, get_or, length}
use Rattle.s66_isa.specs.{numbers_in}
use Rattle.s66_bound.proofs.SetWalks.{least_with}
use Rattle.s66_bound.proofs.numbers.least_of.Given as goal

abbrev pub decreases-loop-number : goal.decreases-loop-number
decreases-loop-number l = length (numbers_in l.rest)

abbrev pub invariant-loop-number : goal.invariant-loop-number
invariant-loop-number l = least_with l.low (λ n. get_or l.words (n - 1) 0) (numbers_in l.rest) ≡ least_with (2 ^ 32 - 1) (λ n. get_or l.words (n - 1) 0) (numbers_in l.numbers)
