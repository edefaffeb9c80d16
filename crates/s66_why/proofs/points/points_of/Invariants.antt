use Rattle.std.proofs.Common.{◌≡◌, take, reverse}
use Rattle.s66_model.specs.{points_of}
use Rattle.s66_why.proofs.points.points_of.Given as goal

abbrev pub invariant-loop-position : goal.invariant-loop-position
invariant-loop-position l = l.points.items ≡ reverse (points_of l.timed.problem (take l.position l.timed.numbers))
