use Rattle.std.proofs.Common.{ℕ, ◌≡◌, ◌+◌, ◌*◌, ◌^◌, take}
use Rattle.s66_why.specs.{Conflict, lost, sum_of, AreAtMost}
use Rattle.s66_why.proofs.lost.Lost.add_all.Given as goal

abbrev pub invariant-loop-stretch : goal.invariant-loop-stretch
invariant-loop-stretch l = record {
  sums : (conflict : Conflict) → sum_of l.self conflict ≡ sum_of l.fn.self conflict + lost conflict (take l.stretch-index l.stretches);
  at_most : (n : ℕ) → AreAtMost n l.fn.self → AreAtMost (n + 2 ^ 32 * l.stretch-index) l.self;
}
