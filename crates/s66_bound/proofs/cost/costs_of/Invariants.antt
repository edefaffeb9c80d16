use Rattle.std.proofs.Common.{ℕ, ◌≡◌, ◌+◌, ◌<◌, length, get_or}
use Rattle.s66_model.specs.{row_at}
use Rattle.s66_bound.specs.{Cost, IsCostOf, timed_by}
use Rattle.s66_bound.proofs.cost.costs_of.Given as goal

abbrev pub invariant-loop-position : goal.invariant-loop-position
invariant-loop-position l = record {
  count : length l.costs.items ≡ l.position;
  each : (i : ℕ) (d : Cost) → i < length l.costs.items → IsCostOf (row_at (timed_by l.block l.profile) (i + 1)) (get_or l.costs.items i d);
}
