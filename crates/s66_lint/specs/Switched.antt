-- To be believed: a source with the comments `*S66 OFF` and `*S66 ON` around each line that `--cut` leaves alone.
use Rattle.std.specs.Prelude.{ℕ, Bool, true, false, not, if◌then◌else◌, List, [], ◌∷◌, ◌++◌, codes, map}
use Rattle.s66_line.specs.{Entry, Block, body, with_newlines, Class, Refused}
use Rattle.s66_source.specs.{Flagged, flagged_lines, is_on_switch}

-- a line as it is or, if it is left alone, between the two comments; the second is left alone too, but for one after a switch ON
abbrev pub between_switches : Flagged → List Flagged
between_switches line =
    if line.alone then record { alone = true; bytes = codes "*S66 OFF" } ∷ line ∷ record { alone = not (is_on_switch (body line.bytes)); bytes = codes "*S66 ON" } ∷ []
    else line ∷ []

-- all lines, each so
abbrev pub switched_lines : List Flagged → List Flagged
switched_lines [] = []
switched_lines (line ∷ lines) = between_switches line ++ switched_lines lines

-- a source with the two comments around each line that `--cut` leaves alone
abbrev pub switched : List ℕ → List ℕ
switched text = with_newlines (map (λ (m : Flagged). m.bytes) (switched_lines (flagged_lines (record { cut = true; text = text }))))

abbrev pub is_refused : Class → Bool
is_refused Refused = true
is_refused class = false

-- an instruction of a block but for the number of its line
abbrev pub unnumbered_entry : Entry → Entry
unnumbered_entry e = record { instr = e.instr; line = 0; bytes = e.bytes }

-- a block but for the numbers of its lines
abbrev pub unnumbered : Block → Block
unnumbered b = record { label = b.label; entries = map unnumbered_entry b.entries }
