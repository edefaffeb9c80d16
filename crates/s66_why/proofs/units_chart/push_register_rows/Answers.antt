use Rattle.std.proofs.Common.{ℕ, ◌∙◌, ◌++◌, ap}
use Rattle.s66_isa.specs.{REGISTER_COUNT, register_at}
use Rattle.s66_isa.specs.Table.{Reg}
use Rattle.s66_why.specs.{register_row}
use Rattle.s66_why.proofs.Appended.{range-more}
use Rattle.s66_why.proofs.units_chart.push_register_rows.Goals as goal

pub loop-index-preserved : goal.loop-index-preserved
loop-index-preserved c =
    range-more (λ (index : ℕ). register_row c.args.width c.args.cycles c.args.points.now (register_at index)) REGISTER_COUNT c.loop-index.index _ c.loop-index.out.items c.push_register_row.new.out.items c.loop-index-test.true
    c.loop-index.invariant (c.in_ok-push_register_row.ensures ∙ ap (λ (r : Reg). c.loop-index.out.items ++ register_row c.args.width c.args.cycles c.args.points.now r) c.of_index.ensures)
