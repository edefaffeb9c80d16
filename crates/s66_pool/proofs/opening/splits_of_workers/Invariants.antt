use Rattle.std.proofs.Common.{◌≡◌, ◌≤◌, ◌-◌, ℕ, length, get_or}
use Rattle.s66_model.specs.{account_at}
use Rattle.s66_ledger.specs.{account_summary}
use Rattle.s66_pool.proofs.opening.splits_of_workers.Given as goal

abbrev pub invariant-loop-i : goal.invariant-loop-i
invariant-loop-i l = record {
  count : length l.splits.items ≡ l.i;
  each : (w : ℕ) → 1 ≤ w → w ≤ l.i → get_or l.splits.items (w - 1) 0 ≡ (account_at (account_summary l.ledger) w).splits;
}
