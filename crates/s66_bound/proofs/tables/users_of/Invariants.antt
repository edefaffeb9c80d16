use Rattle.std.proofs.Common.{ℕ, ◌≡◌, ◌+◌}
use Rattle.s66_isa.specs.{has, numbers_in}
use Rattle.s66_isa.proofs.Sets.{within}
use Rattle.s66_model.specs.{Problem, row_at, uses}
use Rattle.s66_bound.specs.{AreCosts}
use Rattle.s66_bound.proofs.tables.users_of.Given as goal

abbrev pub invariant-loop-place : goal.invariant-loop-place
invariant-loop-place l = (b : Problem) → AreCosts b l.costs → (m : ℕ) → has m (numbers_in l.users) ≡ within (λ n. uses (row_at b n) l.register) (l.place + 1) m
