use Rattle.std.proofs.Common.{rules, arith, ap, ◌+◌, ◌<◌, ◌^◌}
use Rattle.std.proofs.lemmas.List.{at_drop_more}
use Rattle.s66_isa.specs.{weigh}
use Rattle.s66_model.specs.{rest_busy}
use Rattle.s66_checker.proofs.KeptPoints.{timed-work}
use Rattle.s66_checker.proofs.replay.timing.rest_busy.Goals as goal

pub overflow_add-busy : goal.overflow_add-busy
overflow_add-busy c =
    let xs = c.args.points.now in
    let rest = weigh (rest_busy c.args.kind c.args.time) in
    let here = at_drop_more rest xs c.loop-point.point-index c.point-item.result c.loop-point-test.true in
    let fits : c.loop-point.busy + c.rest_busy-busy.result < 2 ^ 32 =
    omega (arith, c.loop-point.invariant, here, ap (rest_busy c.args.kind c.args.time) c.point-item.is, c.rest_busy-busy.ensures, timed-work c.args.kind c.args.time xs c.requires)
    in
    search rules
