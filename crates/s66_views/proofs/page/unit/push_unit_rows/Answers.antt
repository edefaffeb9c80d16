use Rattle.std.proofs.Common.{◌∙◌, ap}
use Rattle.s66_why.specs.{left_from, taken_from}
use Rattle.s66_views.proofs.Points.{unit-more}
use Rattle.s66_views.proofs.page.unit.push_unit_rows.Goals as goal

pub loop-unit-preserved : goal.loop-unit-preserved
loop-unit-preserved c =
    unit-more c.args.most c.loop-unit.unit c.args.kind c.args.total c.loop-unit.rest.items c.as_slice-in-loop-unit.result.now c.left-rest.result.items _ _ _ c.loop-unit-test.true
    (c.as_slice-in-loop-unit.ensures.value ∙ c.taken.ensures ∙ ap (taken_from 0) c.as_slice.ensures.value) (c.left-rest.ensures ∙ ap (left_from 0) c.as_slice-in-loop-unit-2.ensures.value) c.loop-unit.invariant
    c.in_ok-push_unit_row_of.ensures
