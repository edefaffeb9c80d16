use Rattle.std.proofs.Common.{ℕ, ◌≡◌, ◌+◌, ◌==◌}
use Rattle.s66_isa.specs.{has, numbers_in}
use Rattle.s66_isa.proofs.Sets.{within}
use Rattle.s66_model.specs.{Problem, row_at}
use Rattle.s66_bound.specs.{AreCosts}
use Rattle.s66_bound.proofs.tables.long_numbers.Given as goal

abbrev pub invariant-loop-place : goal.invariant-loop-place
invariant-loop-place l = (b : Problem) → AreCosts b l.costs → (m : ℕ) → has m (numbers_in l.long) ≡ within (λ n. (row_at b n).parcels == 2) (l.place + 1) m
