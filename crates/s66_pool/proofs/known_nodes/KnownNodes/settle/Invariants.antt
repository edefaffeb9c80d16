use Rattle.std.proofs.Common.{◌≡◌, length}
use Rattle.s66_pool.specs.{IsAt}
use Rattle.s66_pool.proofs.known_nodes.KnownNodes.settle.Given as goal

abbrev pub invariant-loop-entry : goal.invariant-loop-entry
invariant-loop-entry g l = record {
  here : IsAt l.self-inside.settled.now.table.shared.table_id l.self-inside.settled.now.table.shared.key l.self-inside.token;
  own : l.self-inside.settled.now.table.shared.key.problem ≡ l.self-inside.own.problem;
  same : l.self-inside.own.problem ≡ l.fn.self.problem;
}

abbrev pub decreases-loop-entry : goal.decreases-loop-entry
decreases-loop-entry g l = length l.self-inside.own.names
