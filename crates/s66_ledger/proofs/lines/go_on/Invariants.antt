use Rattle.std.proofs.Common.{◌≡◌, []}
use Rattle.s66_model.specs.{later}
use Rattle.s66_ledger.specs.{StandsAt}
use Rattle.s66_ledger.proofs.lines.go_on.Given as goal

-- after this prefix comes what comes after the first
abbrev pub invariant-loop-node : goal.invariant-loop-node
invariant-loop-node l = record {
  problem : l.walk.problem ≡ l.fn.walk.problem;
  same : later l.fn.walk.problem.block [] l.walk.numbers ≡ later l.fn.walk.problem.block [] l.fn.walk.numbers;
  stands : StandsAt l.nodes l.node l.walk.numbers;
}

abbrev pub decreases-loop-node : goal.decreases-loop-node
decreases-loop-node l = l.node
