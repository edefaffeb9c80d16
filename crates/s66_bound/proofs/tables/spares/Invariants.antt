use Rattle.std.proofs.Common.{ℕ, ◌≡◌, ◌-◌, ◌≤◌, length, get_or}
use Rattle.s66_isa.specs.{BLOCK_LIMIT}
use Rattle.s66_model.specs.{Problem, spare}
use Rattle.s66_bound.specs.{AreCosts}
use Rattle.s66_bound.proofs.tables.spares.Given as goal

abbrev pub invariant-loop-place : goal.invariant-loop-place
invariant-loop-place l = record {
  size : length l.spares ≡ BLOCK_LIMIT;
  known : (b : Problem) → AreCosts b l.costs → (n : ℕ) → 1 ≤ n → n ≤ l.place → get_or l.spares (n - 1) 0 ≡ (spare b n);
}
