use Rattle.std.proofs.Common.{ℕ, ◌-◌, ◌≡◌, ◌≤◌, length, get_or}
use Rattle.s66_isa.specs.{has, numbers_in, no_set}
use Rattle.s66_facts.specs.{before_in}
use Rattle.s66_facts.proofs.pairs.turned.Given as goal

abbrev pub invariant-loop-position : goal.invariant-loop-position
invariant-loop-position l = record {
  count : length l.all.items ≡ l.position;
  each : (n : ℕ) → 1 ≤ n → n ≤ l.position → (m : ℕ) → has m (numbers_in (get_or l.all.items (n - 1) no_set)) ≡ before_in l.before n m;
}
