use Rattle.std.proofs.Common.{◌≡◌, map, reverse, take}
use Rattle.s66_model.specs.{points_of}
use Rattle.s66_why.specs.{work}
use Rattle.s66_why.proofs.work.works_of.Given as goal

abbrev pub invariant-loop-position : goal.invariant-loop-position
invariant-loop-position l = l.works.items ≡ map work (take l.position (reverse (points_of l.timed.problem l.timed.numbers)))
