use Rattle.std.proofs.Common.{◌≡◌}
use Rattle.s66_deep.proofs.best_first.trail.Trail.go_to.Given as goal

abbrev pub invariant-loop-back : goal.invariant-loop-back
invariant-loop-back l = l.self ≡ l.fn.self
