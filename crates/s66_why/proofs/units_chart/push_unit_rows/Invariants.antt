use Rattle.std.proofs.Common.{◌≡◌, ◌++◌, drop, flat_map}
use Rattle.s66_isa.specs.{all_kinds}
use Rattle.s66_why.specs.{kind_rows}
use Rattle.s66_why.proofs.units_chart.push_unit_rows.Given as goal

abbrev pub invariant-loop-kind : goal.invariant-loop-kind
invariant-loop-kind l =
    l.out.items ++ flat_map (kind_rows l.width l.cycles l.works) (drop l.kind-index l.kind-items) ≡ l.fn.out.items ++ flat_map (kind_rows l.width l.cycles l.works) all_kinds
