use Rattle.std.proofs.Common.{ℕ, ◌-◌, ◌≡◌, ◌≤◌, length, get_or}
use Rattle.s66_isa.specs.{no_set}
use Rattle.s66_facts.specs.{before_in, IsNear}
use Rattle.s66_facts.proofs.near.near_each.Given as goal

abbrev pub invariant-loop-position : goal.invariant-loop-position
invariant-loop-position l = record {
  count : length l.all.items ≡ l.position;
  each : (n : ℕ) → 1 ≤ n → n ≤ l.position → IsNear l.graph.problem (before_in l.sooner) (get_or l.all.items (n - 1) no_set) n;
}
