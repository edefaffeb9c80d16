use Rattle.std.proofs.Common.{ℕ, ◌≡◌, ◌≤◌, ◌||◌, ◌&&◌, not, true, length}
use Rattle.s66_isa.specs.{has, every, numbers_in}
use Rattle.s66_time.specs.{needs_of, opens}
use Rattle.s66_time.proofs.graph.openings.Openings.ready_after.Given as goal

abbrev pub invariant-loop-m : goal.invariant-loop-m
invariant-loop-m l = record {
  rest : (m : ℕ) → has m (numbers_in l.rest) ≡ true → (1 ≤ m) × (m ≤ length l.self);
  found : (m : ℕ) → (has m (numbers_in l.after) || (has m (numbers_in l.rest) && every (λ a. has a (numbers_in l.placed)) (needs_of l.self m))) ≡ ((has m (numbers_in l.before) && not (has m (numbers_in l.placed))) || (has m (opens l.self l.n) && every (λ a. has a (numbers_in l.placed)) (needs_of l.self m)));
}

abbrev pub decreases-loop-m : goal.decreases-loop-m
decreases-loop-m l = length (numbers_in l.rest)
