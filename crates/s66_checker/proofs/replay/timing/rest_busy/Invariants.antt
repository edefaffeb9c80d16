use Rattle.std.proofs.Common.{◌≡◌, ◌+◌, drop}
use Rattle.s66_isa.specs.{weigh}
use Rattle.s66_model.specs.{rest_busy}
use Rattle.s66_checker.proofs.replay.timing.rest_busy.Given as goal

abbrev pub invariant-loop-point : goal.invariant-loop-point
invariant-loop-point l = l.busy + weigh (rest_busy l.kind l.time) (drop l.point-index l.points) ≡ weigh (rest_busy l.kind l.time) l.points
