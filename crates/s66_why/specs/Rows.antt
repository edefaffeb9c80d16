-- Used by contracts within the crate alone: the rows of a chart, after texts or without.
use Rattle.std.specs.Prelude.{ℕ, if◌then◌else◌, List, [], ◌++◌, Option, None, Some, flat_map, length}
use Rattle.std.specs.List.{range_with_len}
use Rattle.s66_line.specs.{Block, text_of}
use Rattle.s66_time.specs.TimedOrder.{TimedOrder}
use Rattle.s66_time.specs.{point_at}
use Rattle.s66_why.specs.Chart.{has_filler, instruction_row, no_row}
use Rattle.s66_why.specs.TextChart.{in_places}

-- a text in as many places as are given for it, if any are
abbrev pub before_row : Option ℕ → List ℕ → List ℕ
before_row None text = []
before_row (Some width) text = in_places width text

-- the row of the instruction at a position, after its text
abbrev pub row_in : Option ℕ → Block → TimedOrder → ℕ → List ℕ
row_in places block t position = before_row places (text_of block (point_at t position).number) ++ instruction_row t position

-- the row of the NO after it, if there is one
abbrev pub no_row_in : Option ℕ → TimedOrder → ℕ → List ℕ
no_row_in places t position = if has_filler t position then before_row places [] ++ no_row t position else []

abbrev pub rows_in : Option ℕ → Block → TimedOrder → List ℕ
rows_in places block t = flat_map (λ position. row_in places block t position ++ no_row_in places t position) (range_with_len 0 (length t.numbers))
