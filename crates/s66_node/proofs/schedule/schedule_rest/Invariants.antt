use Rattle.std.proofs.Common.{◌-◌, length}
use Rattle.s66_node.proofs.Schedules.{HasGoneOn}
use Rattle.s66_node.proofs.schedule.schedule_rest.Given as goal

abbrev pub invariant-loop-n : goal.invariant-loop-n
invariant-loop-n l = HasGoneOn l.fn.walk l.walk

abbrev pub decreases-loop-n : goal.decreases-loop-n
decreases-loop-n l = length l.walk.problem.block - length l.walk.numbers
