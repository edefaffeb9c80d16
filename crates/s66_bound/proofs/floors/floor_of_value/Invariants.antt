use Rattle.std.proofs.Common.{drop}
use Rattle.s66_model.proofs.FloorWalk.{leaves_from}
use Rattle.s66_time.specs.{problem_of}
use Rattle.s66_bound.proofs.FirstGreatest.{IsToCome}
use Rattle.s66_bound.proofs.floors.floor_of_value.Given as goal

abbrev pub invariant-loop-kind : goal.invariant-loop-kind
invariant-loop-kind l = IsToCome (problem_of l.clock) l.clock.numbers l.value (leaves_from (drop l.kind-index l.kind-items))
