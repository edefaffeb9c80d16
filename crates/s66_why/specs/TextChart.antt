-- To be believed: a chart with the text of each instruction before its row, and a ruler above the rows.
use Rattle.std.specs.Prelude.{ℕ, ◌+◌, ◌-◌, ◌*◌, ◌/◌, if◌then◌else◌, List, [], ◌++◌, codes, decimal, flat_map, length, replicate}
use Rattle.std.specs.List.{range_with_len}
use Rattle.s66_isa.specs.{greatest, numbers}
use Rattle.s66_line.specs.{Block, instrs_of, text_of}
use Rattle.s66_time.specs.TimedOrder.{TimedOrder}
use Rattle.s66_time.specs.{point_at}
use Rattle.s66_why.specs.declared.row.TheConstants.{NAME_ROOM}
use Rattle.s66_why.specs.Chart.{cycles_of, has_filler, instruction_row, no_row}

-- TEXTS

-- how many places the texts of a block need
abbrev pub text_width : Block → ℕ
text_width block = greatest (λ n. length (text_of block n)) (numbers (instrs_of block))

-- a text on the left of this many places, and a blank
abbrev pub in_places : ℕ → List ℕ → List ℕ
in_places width text = text ++ replicate (width - length text) 32 ++ codes " "

-- THE RULER

-- a number on the left of ten places
abbrev pub in_ten : ℕ → List ℕ
in_ten n = decimal n ++ replicate (10 - length (decimal n)) 32

-- after a text, a blank, a number and a blank, above every tenth minor cycle its number, from 0, up to the end
abbrev pub ruler : (width cycles : ℕ) → List ℕ
ruler width cycles =
    replicate (width + 1 + NAME_ROOM + 1) 32 ++ flat_map (λ ten. in_ten (10 * ten)) (range_with_len 0 (cycles / 10)) ++ decimal (10 * (cycles / 10)) ++ codes "\n"

-- THE ROWS

-- its text in this many places
abbrev pub text_row : (width : ℕ) → Block → TimedOrder → ℕ → List ℕ
text_row width block t position = in_places width (text_of block (point_at t position).number) ++ instruction_row t position

-- a NO has no text
abbrev pub blank_row : (width : ℕ) → TimedOrder → ℕ → List ℕ
blank_row width t position = if has_filler t position then in_places width [] ++ no_row t position else []

abbrev pub chart_in_places : (width : ℕ) → Block → TimedOrder → List ℕ
chart_in_places width block t =
    ruler width (cycles_of t) ++ flat_map (λ position. text_row width block t position ++ blank_row width t position) (range_with_len 0 (length t.numbers))

abbrev pub text_chart : Block → TimedOrder → List ℕ
text_chart block t = chart_in_places (text_width block) block t
