use Rattle.std.specs.List.{range_with_len}
use Rattle.std.proofs.Common.{◌≡◌, ◌-◌, ◌++◌, map}
use Rattle.s66_why.specs.{cell}
use Rattle.s66_why.proofs.units_chart.push_marks.Given as goal

abbrev pub invariant-loop-cycle : goal.invariant-loop-cycle
invariant-loop-cycle l =
    l.out.items ++ map (cell l.reservations) (range_with_len l.cycle (l.cycles - l.cycle)) ≡ l.fn.out.items ++ map (cell l.reservations) (range_with_len 0 l.cycles)
