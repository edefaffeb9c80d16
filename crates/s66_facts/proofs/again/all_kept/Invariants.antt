use Rattle.std.proofs.Common.{ℕ, ◌≡◌, true}
use Rattle.s66_isa.specs.{has, numbers_in}
use Rattle.s66_facts.specs.{before_in, sooner, keeps}
use Rattle.s66_facts.proofs.again.all_kept.Given as goal

abbrev pub invariant-loop-position : goal.invariant-loop-position
invariant-loop-position l = (k : ℕ) → has k (numbers_in l.same) ≡ true → keeps (sooner l.direction (before_in l.graph.marks)) l.m l.n k ≡ true
