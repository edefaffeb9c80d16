use Rattle.std.proofs.Common.{ℕ, ◌≡◌, ◌≤◌, true}
use Rattle.s66_isa.specs.{has, numbers_in}
use Rattle.s66_facts.proofs.again.are_all.Given as goal

abbrev pub invariant-loop-position : goal.invariant-loop-position
invariant-loop-position l = (m : ℕ) → 1 ≤ m → m ≤ l.position → has m (numbers_in l.done) ≡ true
