use Rattle.std.proofs.Common.{ℕ, ◌≡◌, ◌≤◌, ◌&&◌, not, true, length}
use Rattle.s66_isa.specs.{has, some_of, numbers_in}
use Rattle.s66_time.specs.{needs_of, is_direct}
use Rattle.s66_time.proofs.graph.openings.direct_needs.Given as goal

abbrev pub invariant-loop-k : goal.invariant-loop-k
invariant-loop-k l = record {
  range : (k : ℕ) → has k (numbers_in l.rest) ≡ true → (1 ≤ k) × (k ≤ length l.dependences);
  found : (m : ℕ) → (has m (numbers_in l.direct) && not (some_of (λ k. has m (needs_of l.dependences k)) (numbers_in l.rest))) ≡ is_direct l.dependences m l.n;
}

abbrev pub decreases-loop-k : goal.decreases-loop-k
decreases-loop-k l = length (numbers_in l.rest)
