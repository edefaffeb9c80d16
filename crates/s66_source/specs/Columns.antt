-- To be believed: in which columns the operations of a block begin that is printed.
use Rattle.std.specs.Prelude.{ℕ, ◌-◌, ◌==◌, if◌then◌else◌, min, max, List, [], ◌∷◌, ◌++◌, codes, get_or, length, map, nat_lt, replicate}
use Rattle.s66_line.specs.{Block, Entry, bytes_of, body, from_operation, label_bytes, trim, is_trailing}
use Rattle.s66_source.specs.Printed.{label_field}
use Rattle.s66_source.specs.Source.{Line}
use Rattle.s66_source.specs.declared.columns.Columns.{Columns}
use Rattle.s66_source.specs.declared.columns.Columns.TheVariants.{Usual, Own}

-- how many bytes come before the operation of a line
abbrev pub before_operation : List ℕ → ℕ
before_operation line = length (body line) - length (from_operation (body line))

-- how many blanks come before the operation of an instruction that is printed without a label, by its line in the source: ten, or as
-- many as there are bytes before it in its line, but two at least, as a location may begin after one, and 28 at most, as 29 make a
-- comment. Behind a label of ten bytes or more it is ten: such a label has put the operand where COMPASS may not see it without a label
abbrev pub indent : Columns → List ℕ → ℕ
indent Usual line = 10
indent Own line = if nat_lt (length (label_bytes (body line))) 10 then max (min (before_operation line) 28) 2 else 10

-- the line of this number
abbrev pub bytes_on : List Line → ℕ → List ℕ
bytes_on [] number = []
bytes_on (line ∷ lines) number = if line.number == number then line.bytes else bytes_on lines number

-- the blanks before each instruction of a block, in a source of these lines
abbrev pub indents : Columns → List Line → Block → List ℕ
indents columns all block = map (λ (e : Entry). indent columns (bytes_on all e.line)) block.entries

-- a label with the blanks after it, or so many blanks if there is none
abbrev pub line_start : List ℕ → ℕ → List ℕ
line_start [] blanks = replicate blanks 32
line_start (b ∷ label) blanks = label_field (b ∷ label)

-- an instruction, by the bytes of its line from its operation on
abbrev pub indented_line : List ℕ → ℕ → List ℕ → List ℕ
indented_line label blanks bytes = line_start label blanks ++ trim is_trailing bytes ++ codes "\n"

-- the instructions of these numbers, the first of them with the label, by the blanks before each instruction of the block
abbrev pub indented_lines : List ℕ → Block → List ℕ → List ℕ → List ℕ
indented_lines blanks block label [] = []
indented_lines blanks block label (n ∷ ns) = indented_line label (get_or blanks (n - 1) 0) (bytes_of block n) ++ indented_lines blanks block [] ns
