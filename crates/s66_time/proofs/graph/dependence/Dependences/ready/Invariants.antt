use Rattle.std.proofs.Common.{ℕ, ◌≡◌, ◌≤◌, ◌+◌, ◌||◌, ◌&&◌, true, false, length}
use Rattle.s66_isa.specs.{has, numbers_in}
use Rattle.s66_isa.proofs.Sets.{within}
use Rattle.s66_time.proofs.Readiness.{is_free}
use Rattle.s66_time.proofs.graph.dependence.Dependences.ready.Given as goal

abbrev pub decreases-loop-n : goal.decreases-loop-n
decreases-loop-n l = length (numbers_in l.rest)

abbrev pub invariant-loop-n : goal.invariant-loop-n
invariant-loop-n l = record {
  rest : (m : ℕ) → has m (numbers_in l.rest) ≡ true → (1 ≤ m) × (m ≤ length l.self) × (has m (numbers_in l.placed) ≡ false);
  found : (m : ℕ) → (has m (numbers_in l.ready) || (has m (numbers_in l.rest) && is_free l.self (numbers_in l.placed) m)) ≡ within (is_free l.self (numbers_in l.placed)) (length l.self + 1) m;
}
