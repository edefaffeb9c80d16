use Rattle.std.proofs.Common.{arith}
use Rattle.s66_checker.proofs.KeptPoints.{timed-few}
use Rattle.s66_checker.proofs.replay.dominance.free_times.Goals as goal

pub insert-requires : goal.insert-requires
insert-requires c = omega (arith, c.loop-point.invariant.few, c.loop-point-test.true, timed-few c.args.points.now c.requires)
