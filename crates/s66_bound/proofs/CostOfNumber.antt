-- The cost of a number is at the place below it, for the chain that is printed.
use Rattle.std.proofs.Common.{ℕ, ◌+◌, ◌-◌, ◌≤◌, ◌≡◌, List, length, get_or, subst, arith}
use Rattle.s66_model.specs.{Problem, row_at}
use Rattle.s66_bound.specs.{Cost, IsCostOf, AreCosts}
use Rattle.s66_bound.proofs.CostTables.{cost-at}

pub cost-of : (b : Problem) (es : List Cost) (n : ℕ) (e : Cost) → AreCosts b es → 1 ≤ n → n ≤ length es → e ≡ get_or es (n - 1) e → IsCostOf (row_at b n) e
cost-of b es n e are low high is =
    let place : n - 1 + 1 ≡ n = omega (arith, low) in
    subst (λ k. IsCostOf (row_at b k) e) place (cost-at b es (n - 1) e are (omega (arith, low, high)) is)
