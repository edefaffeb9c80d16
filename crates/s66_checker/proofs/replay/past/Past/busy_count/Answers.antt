use Rattle.std.proofs.Common.{rules, arith, ◌+◌, ◌<◌, ◌^◌}
use Rattle.s66_checker.proofs.replay.past.Past.busy_count.Goals as goal

pub overflow_add-count : goal.overflow_add-count
overflow_add-count c =
    let fits : c.loop-point.count + 1 < 2 ^ 32 =
    omega (arith, c.loop-point.invariant.few, c.loop-point-test.true, c.as_slice-point-items.ensures.fits) in
    search rules
