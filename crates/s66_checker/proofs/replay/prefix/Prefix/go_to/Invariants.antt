use Rattle.std.proofs.Common.{◌≡◌, ◌≤◌, ◌+◌, [], length, take, drop}
use Rattle.s66_checker.specs.{is_beginning_after}
use Rattle.s66_checker.proofs.replay.prefix.Prefix.go_to.Given as goal

-- the numbers that are shared are still there
abbrev pub invariant-loop-self : goal.invariant-loop-self
invariant-loop-self l = record {
  problem : l.self.problem ≡ l.fn.self.problem;
  least : l.shared ≤ length l.self.numbers;
  same : take l.shared l.self.numbers ≡ take l.shared l.numbers;
}

abbrev pub decreases-loop-self : goal.decreases-loop-self
decreases-loop-self l = length l.self.numbers

-- each number so far was ready when it came
abbrev pub invariant-loop-n : goal.invariant-loop-n
invariant-loop-n l = record {
  problem : l.self.problem ≡ l.fn.self.problem;
  numbers : l.self.numbers ≡ take (l.shared + l.n-index) l.numbers;
  rest : is_beginning_after l.fn.self.problem.block l.self.numbers (drop l.n-index l.n-items) ≡ is_beginning_after l.fn.self.problem.block [] l.numbers;
}
