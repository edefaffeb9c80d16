use Rattle.std.proofs.Common.{◌≡◌}
use Rattle.s66_deep.proofs.walk.PathWalk.go_back.Given as goal

abbrev pub invariant-loop : goal.invariant-loop
invariant-loop l = l.self.problem ≡ l.fn.self.problem
