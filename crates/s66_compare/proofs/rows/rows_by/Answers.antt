use Rattle.std.proofs.Common.{rules, ◌≡◌}
use Rattle.s66_compare.specs.{rows_by}
use Rattle.s66_compare.proofs.RowBlocks.{stepped}
use Rattle.s66_compare.proofs.rows.rows_by.Goals as goal

pub returns-clause-blocks : goal.returns-clause-blocks
returns-clause-blocks c =
    let is : c.push_by_steps.new.rows.items ≡ rows_by c.args.profile.now c.args.steps.now c.args.old.now c.args.new.now = search rules in
    stepped c.args.profile.now c.args.steps.now c.args.old.now c.args.new.now c.push_by_steps.new.rows.items is
