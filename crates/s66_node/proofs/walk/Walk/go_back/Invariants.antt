use Rattle.std.proofs.Common.{◌≡◌, ◌≤◌, length, take}
use Rattle.s66_node.proofs.walk.Walk.go_back.Given as goal

abbrev pub invariant-loop-self : goal.invariant-loop-self
invariant-loop-self l =
    record {
      problem : l.self.problem ≡ l.fn.self.problem;
      common : take l.common l.self.numbers ≡ take l.common l.fn.self.numbers;
      far : l.common ≤ length l.self.numbers;
    }

abbrev pub decreases-loop-self : goal.decreases-loop-self
decreases-loop-self l = length l.self.numbers
