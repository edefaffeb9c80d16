use Rattle.std.proofs.Common.{ℕ, ◌-◌, ◌≡◌, ◌≤◌, false, length, get_or}
use Rattle.s66_isa.specs.{has, numbers_in, no_set}
use Rattle.s66_facts.proofs.marks.none_each.Given as goal

abbrev pub invariant-loop-position : goal.invariant-loop-position
invariant-loop-position l = record {
  count : length l.all.items ≡ l._position;
  each : (n : ℕ) → 1 ≤ n → n ≤ l._position → (m : ℕ) → has m (numbers_in (get_or l.all.items (n - 1) no_set)) ≡ false;
}
