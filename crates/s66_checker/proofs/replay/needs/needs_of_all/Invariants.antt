use Rattle.std.proofs.Common.{ℕ, ◌≡◌, ◌≤◌, ◌<◌, ◌+◌, length, get_or}
use Rattle.s66_isa.specs.{BLOCK_LIMIT, has, numbers_in, Set}
use Rattle.s66_model.specs.{depends}
use Rattle.s66_checker.proofs.replay.needs.needs_of_all.Given as goal

abbrev pub invariant-loop-position : goal.invariant-loop-position
invariant-loop-position l = record {
  count : length l.needs_of_all.items ≡ l.position;
  each : (i : ℕ) (d : Set) → i < l.position → (m : ℕ) → 1 ≤ m → m ≤ BLOCK_LIMIT → has m (numbers_in (get_or l.needs_of_all.items i d)) ≡ depends l.block m (i + 1);
}
