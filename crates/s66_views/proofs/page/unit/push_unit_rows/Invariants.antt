use Rattle.std.proofs.Common.{◌≡◌, ◌-◌, ◌++◌}
use Rattle.s66_views.specs.{unit_rows}
use Rattle.s66_views.proofs.page.unit.push_unit_rows.Given as goal

abbrev pub invariant-loop-unit : goal.invariant-loop-unit
invariant-loop-unit l = l.out.items ++ unit_rows (l.most - l.unit) l.kind l.total l.rest.items ≡ l.fn.out.items ++ unit_rows l.most l.kind l.total l.fn.works.items
