use Rattle.std.proofs.Common.{ℕ, ◌≡◌, ◌≤◌, ◌∷◌, ◌++◌, length}
use Rattle.s66_isa.specs.{Among, numbers_in}
use Rattle.s66_model.specs.{Problem}
use Rattle.s66_model.proofs.WalkOver.{walk_over}
use Rattle.s66_bound.specs.{AreCosts, IsTables}
use Rattle.s66_bound.proofs.printed.walk_from.Given as goal

abbrev pub invariant-loop-number : goal.invariant-loop-number
invariant-loop-number l = record {
  range : (1 ≤ l.last) × (l.last ≤ length l.costs);
  few : length l.numbers.items ≤ l.last;
  within : (n : ℕ) → Among n (numbers_in l.others) → (1 ≤ n) × (n ≤ length l.costs);
  walked : (b : Problem) → AreCosts b l.costs → IsTables b l.tables → l.numbers.items ++ walk_over b l.last (numbers_in l.others) ≡ l.first ∷ walk_over b l.first (numbers_in l.fn.rest);
}

abbrev pub decreases-loop-number : goal.decreases-loop-number
decreases-loop-number l = length (numbers_in l.others)
