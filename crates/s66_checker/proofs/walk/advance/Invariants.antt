use Rattle.std.proofs.Common.{◌≡◌, [], length}
use Rattle.s66_model.specs.{later}
use Rattle.s66_checker.proofs.walk.advance.Given as goal

abbrev pub invariant-loop-last : goal.invariant-loop-last
invariant-loop-last l = record {
  problem : l.prefix.problem ≡ l.fn.prefix.problem;
  rest : later l.fn.prefix.problem.block [] l.prefix.numbers ≡ later l.fn.prefix.problem.block [] l.fn.prefix.numbers;
}

abbrev pub decreases-loop-last : goal.decreases-loop-last
decreases-loop-last l = length l.prefix.numbers
