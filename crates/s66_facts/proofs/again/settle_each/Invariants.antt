use Rattle.std.proofs.Common.{ℕ, ◌+◌, ◌≡◌, ◌≤◌, true, length}
use Rattle.s66_isa.specs.{has, numbers_in}
use Rattle.s66_moments.specs.{IsNumber}
use Rattle.s66_facts.specs.{rank, AreSettled, IsMarkedUpTo}
use Rattle.s66_facts.proofs.Told.{IsSeen}
use Rattle.s66_facts.proofs.again.settle_each.Given as goal

abbrev pub invariant-loop-position : goal.invariant-loop-position
invariant-loop-position l = record {
  right : AreSettled l.direction l.graph l.from l.initial.times l.fn.settled → AreSettled l.direction l.graph l.from l.times l.done;
  old : (h : ℕ) → IsMarkedUpTo l.direction l.graph h l.fn.settled → IsMarkedUpTo l.direction l.graph h l.done;
  new : (h : ℕ) → IsMarkedUpTo l.direction l.graph h l.fn.settled → (n : ℕ) → IsNumber l.graph.problem n → IsSeen l.direction (length l.graph.problem.block) n l.position → rank l.direction l.graph n ≤ h + 1 → has n (numbers_in l.done) ≡ true;
}
