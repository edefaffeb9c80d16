use Rattle.std.proofs.Common.{ℕ, ◌≡◌, true, length}
use Rattle.s66_isa.specs.{has, numbers_in}
use Rattle.s66_facts.proofs.near.is_covered.Given as goal

abbrev pub invariant-loop-k : goal.invariant-loop-k
invariant-loop-k l = (k : ℕ) → has k (numbers_in l.rest) ≡ true → has k (numbers_in l.fn.near) ≡ true

abbrev pub decreases-loop-k : goal.decreases-loop-k
decreases-loop-k l = length (numbers_in l.rest)
