use Rattle.std.proofs.Common.{arith, ltb-true}
use Rattle.s66_node.proofs.Earlier.{earlier-at}
use Rattle.s66_node.proofs.mark_table.is_earlier.Goals as goal

pub returns-then-common-right : goal.returns-then-common-right
returns-then-common-right c =
    λ lower.
    earlier-at c.args.left.now c.args.right.now c.common_length-common.result c.common_length-common.ensures.common (omega arith) (omega arith) (ltb-true _ _ lower)
