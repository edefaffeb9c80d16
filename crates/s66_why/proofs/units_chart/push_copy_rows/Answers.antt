use Rattle.std.proofs.Common.{◌∙◌, ap}
use Rattle.s66_why.specs.{left_from, taken_from}
use Rattle.s66_why.proofs.UnitRows.{copy-more}
use Rattle.s66_why.proofs.units_chart.push_copy_rows.Goals as goal

pub loop-unit-preserved : goal.loop-unit-preserved
loop-unit-preserved c =
    copy-more c.args.most c.loop-unit.unit c.args.width c.args.cycles c.args.kind c.loop-unit.rest.items c.as_slice-in-loop-unit.result.now c.left-rest.result.items _ _ _ c.loop-unit-test.true
    (c.as_slice-in-loop-unit.ensures.value ∙ c.taken.ensures ∙ ap (taken_from 0) c.as_slice.ensures.value) (c.left-rest.ensures ∙ ap (left_from 0) c.as_slice-in-loop-unit-2.ensures.value) c.loop-unit.invariant
    c.in_ok-push_unit_row.ensures
