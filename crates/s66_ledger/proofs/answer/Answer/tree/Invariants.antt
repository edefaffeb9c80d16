use Rattle.std.proofs.Common.{◌≡◌, ◌++◌, true, length}
use Rattle.s66_model.specs.{flat}
use Rattle.s66_ledger.specs.{answer_of, StandsAt, lines_left}
use Rattle.s66_ledger.proofs.answer.Answer.tree.Given as goal

abbrev pub invariant-loop-more : goal.invariant-loop-more
invariant-loop-more l = record {
  problem : l.walk.problem ≡ l.self.problem;
  stands : l.more ≡ true → StandsAt l.nodes l.node l.walk.numbers;
  rest : l.tree ++ lines_left l.walk.problem l.nodes l.more l.walk.numbers ≡ flat (answer_of l.self).tree;
}

abbrev pub decreases-loop-more : goal.decreases-loop-more
decreases-loop-more l = length (lines_left l.walk.problem l.nodes l.more l.walk.numbers)
