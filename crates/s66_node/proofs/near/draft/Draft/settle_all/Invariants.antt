use Rattle.std.proofs.Common.{◌≡◌, ◌≤◌}
use Rattle.s66_node.proofs.near.draft.Draft.settle_all.Given as goal

abbrev pub invariant-loop-index : goal.invariant-loop-index
invariant-loop-index l = record {
  problem : l.walk.problem ≡ l.fn.walk.problem;
  nearer : l.self.pairs ≤ l.fn.self.pairs;
}
