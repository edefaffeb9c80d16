use Rattle.std.proofs.Common.{arith, ap, length}
use Rattle.s66_time.proofs.LongestBeginning.{beginning-few}
use Rattle.s66_node.proofs.mark_table.MarkEntry.of.Goals as goal

pub copy_of-requires : goal.copy_of-requires
copy_of-requires c =
    omega (arith, beginning-few c.args.walk.now.problem.block c.args.walk.now.numbers c.numbers.ensures.begins, c.numbers.ensures.few, ap length c.numbers.ensures.value)
