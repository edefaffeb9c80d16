use Rattle.std.proofs.Common.{rules, ◌+◌, ◌^◌, ◌<◌, ap, arith}
use Rattle.s66_model.specs.{row_at, tail}
use Rattle.s66_model.proofs.PointTimes.{good-at}
use Rattle.s66_checker.proofs.LeafBounds.{tail-le}
use Rattle.s66_checker.proofs.leaf.if_last.Goals as goal

pub overflow_add-result-2 : goal.overflow_add-result-2
overflow_add-result-2 c =
    let b = c.args.prefix.now.problem in
    let fits : c.args.slot + c.saturating_sub.result + c.tail.result < 2 ^ 32 =
    omega (arith, c.requires.slot.1, c.requires.parcels.1, c.saturating_sub.ensures, c.tail.ensures, ap tail c.row-row.ensures, tail-le (row_at b c.args.n) (good-at b c.args.n))
    in
    search rules
