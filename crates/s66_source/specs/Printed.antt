-- To be believed: what is printed of a block and of a line.
use Rattle.std.specs.Prelude.{ℕ, ◌≤◌, ◌-◌, ◌==◌, if◌then◌else◌, List, [], ◌∷◌, ◌++◌, length, replicate, codes, decimal, nat_lt, Option, None, Some}
-- what `decimal` computes by
unfoldable pub use Rattle.std.specs.Fmt.{digits}
use Rattle.s66_isa.specs.{Among}
use Rattle.s66_line.specs.{body, trim, is_trailing, Block, bytes_of}
use Rattle.s66_source.specs.Source.{Line}
use Rattle.s66_source.specs.Roles.{is_note_of}

-- how a block is to be printed, and what is reported of it; times are in minor cycles
pub record Placed : Type 0 where
  -- the numbers of its instructions, from 1, in the order in which they are printed
  pub order : List ℕ
  -- the time of the source order
  pub source : ℕ
  -- the time of this order
  pub time : ℕ
  -- what every order takes at least
  pub bound : ℕ
  -- how many splits the search took, if that is to be printed
  pub splits : Option ℕ

-- one for each block, and each number of its order is one of the block's
abbrev pub ArePlaced : List Block → List Placed → Type 0
ArePlaced [] [] = Unit {0}
ArePlaced (block ∷ blocks) (p ∷ ps) = ((n : ℕ) → Among n p.order → (1 ≤ n) × (n ≤ length block.entries)) × ArePlaced blocks ps
ArePlaced blocks ps = ⊥

-- THE REPORT of a block

abbrev pub splits_line : Option ℕ → List ℕ
splits_line None = []
splits_line (Some splits) = codes "* SPLITS " ++ decimal splits ++ codes "\n"

-- this order is best, or what every order takes at least
abbrev pub bound_text : Placed → List ℕ
bound_text p = if p.bound == p.time then codes " BEST\n" else (codes " AT LEAST " ++ decimal p.bound ++ codes "\n")

-- of the n-th block, from 1, with this many instructions: how long it takes as it was read and as it is printed
abbrev pub times_text : ℕ → ℕ → ℕ → ℕ → List ℕ
times_text n count source time =
    codes "* BLOCK " ++ decimal n ++ codes " COUNT " ++ decimal count ++ codes " SOURCE " ++ decimal source ++ codes " TIME " ++ decimal time

abbrev pub report : ℕ → ℕ → Placed → List ℕ
report n count p = times_text n count p.source p.time ++ bound_text p ++ splits_line p.splits

-- LINES

-- a label filled with blanks to ten bytes, or followed by one blank if it has ten or more; ten blanks if there is none
abbrev pub label_field : List ℕ → List ℕ
label_field label = label ++ (if nat_lt (length label) 10 then replicate (10 - length label) 32 else (32 ∷ []))

-- an instruction, by the bytes of its line from its operation on, after this label
abbrev pub instruction_line : List ℕ → List ℕ → List ℕ
instruction_line label bytes = label_field label ++ trim is_trailing bytes ++ codes "\n"

-- the instructions of these numbers, the first of them with the label
abbrev pub instruction_lines : Block → List ℕ → List ℕ → List ℕ
instruction_lines block label [] = []
instruction_lines block label (n ∷ ns) = instruction_line label (bytes_of block n) ++ instruction_lines block [] ns

-- a line as it was read, without the carriage returns at its end
abbrev pub copied_line : Line → List ℕ
copied_line line = body line.bytes ++ codes "\n"

-- those of the lines that are notes of the block
abbrev pub notes_text : Block → List Line → List ℕ
notes_text block [] = []
notes_text block (line ∷ lines) = (if is_note_of line block then copied_line line else []) ++ notes_text block lines
