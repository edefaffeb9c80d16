use Rattle.std.proofs.Common.{◌≡◌, ◌+◌, ◌-◌, ◌++◌}
use Rattle.s66_why.specs.{copy_rows}
use Rattle.s66_why.proofs.units_chart.push_copy_rows.Given as goal

abbrev pub invariant-loop-unit : goal.invariant-loop-unit
invariant-loop-unit l =
    l.out.items ++ copy_rows (l.most - l.unit) (l.unit + 1) l.width l.cycles l.kind l.rest.items ≡ l.fn.out.items ++ copy_rows l.most 1 l.width l.cycles l.kind l.fn.works.items
