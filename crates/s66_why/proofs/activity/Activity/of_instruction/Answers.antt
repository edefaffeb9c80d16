use Rattle.std.proofs.Common.{arith}
use Rattle.s66_time.proofs.Positions.{issue-le-start}
use Rattle.s66_why.proofs.activity.Activity.of_instruction.Goals as goal

pub returns-clause-in_order : goal.returns-clause-in_order
returns-clause-in_order c =
    let starts = issue-le-start c.args.timed.now c.args.position c.requires in
    (omega arith, omega (arith, starts, c.at-times.ensures.issue, c.at-times.ensures.start), omega arith)
