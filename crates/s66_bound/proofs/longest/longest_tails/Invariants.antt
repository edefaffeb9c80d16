use Rattle.std.proofs.Common.{ℕ, ◌≡◌, ◌-◌, ◌<◌, ◌≤◌, length, get_or}
use Rattle.s66_isa.specs.{BLOCK_LIMIT}
use Rattle.s66_model.specs.{Problem, longest_tail}
use Rattle.s66_bound.specs.{AreCosts}
use Rattle.s66_bound.proofs.longest.longest_tails.Given as goal

abbrev pub decreases-loop-place : goal.decreases-loop-place
decreases-loop-place l = l.place

abbrev pub invariant-loop-place : goal.invariant-loop-place
invariant-loop-place l = record {
  size : length l.longest ≡ BLOCK_LIMIT;
  within : l.place ≤ length l.costs;
  known : (b : Problem) → AreCosts b l.costs → (n : ℕ) → l.place < n → n ≤ length b.block → get_or l.longest (n - 1) 0 ≡ longest_tail b n;
}
