use Rattle.std.proofs.Common.{ℕ, ◌≡◌, ◌+◌, true}
use Rattle.s66_isa.specs.{has, numbers_in}
use Rattle.s66_isa.proofs.Sets.{within}
use Rattle.s66_isa.proofs.set.Set.up_to.Given as goal

abbrev pub invariant-loop-position : goal.invariant-loop-position
invariant-loop-position l = (m : ℕ) → has m (numbers_in l.set) ≡ within (λ n. true) (l.position + 1) m
