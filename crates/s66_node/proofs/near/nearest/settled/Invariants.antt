use Rattle.std.proofs.Common.{◌≡◌, ◌≤◌}
use Rattle.s66_node.specs.{reversed}
use Rattle.s66_node.proofs.near.nearest.settled.Given as goal

abbrev pub invariant-loop : goal.invariant-loop
invariant-loop l = record {
  problem : l.walk.problem ≡ l.fn.walk.problem;
  nearer : l.draft.pairs ≤ reversed l.timed.numbers;
}
