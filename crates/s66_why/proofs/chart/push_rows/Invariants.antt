use Rattle.std.specs.List.{range_with_len}
use Rattle.std.proofs.Common.{ℕ, ◌≡◌, ◌-◌, ◌++◌, flat_map, length}
use Rattle.s66_why.specs.{no_row_in, row_in, rows_in}
use Rattle.s66_why.proofs.chart.push_rows.Given as goal

abbrev pub invariant-loop-position : goal.invariant-loop-position
invariant-loop-position l =
    l.out.items ++ flat_map (λ (i : ℕ). row_in l.places l.block l.timed i ++ no_row_in l.places l.timed i) (range_with_len l.position (length l.timed.numbers - l.position)) ≡ l.fn.out.items ++ rows_in l.places l.block l.timed
