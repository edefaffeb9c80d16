-- To be believed: by what name each block of a source is entered.
use Rattle.std.specs.Prelude.{ℕ, ◌-◌, if◌then◌else◌, List, [], ◌∷◌, get_or}
use Rattle.s66_line.specs.{location}
use Rattle.s66_source.specs.{FramePart, frame_of, Reading, has_operation}
use Rattle.s66_program.specs.Statement.{name_in}

-- the name of the last line that is neither a comment nor a continuation, after one line more
abbrev pub last_name : (last line : List ℕ) → List ℕ
last_name last line = if has_operation line then name_in (location line) else last

-- the name of a block by its own label, or by the line before it
abbrev pub or_last : (name last : List ℕ) → List ℕ
or_last [] last = last
or_last (b ∷ name) last = b ∷ name

-- of these parts, if the line before them has this name
abbrev pub entries_from : (last : List ℕ) → List FramePart → List (List ℕ)
entries_from last [] = []
entries_from last (p ∷ parts) = if p.is_block then or_last (name_in p.bytes) last ∷ entries_from [] parts else entries_from (last_name last p.bytes) parts

-- of all blocks, in their order; empty where there is no name
abbrev pub entries_of : Reading → List (List ℕ)
entries_of source = entries_from [] (frame_of source)

-- of the n-th block, from 1
abbrev pub entry_at : List (List ℕ) → ℕ → List ℕ
entry_at entries n = get_or entries (n - 1) []
