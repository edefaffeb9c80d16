-- To be believed: what `compare` writes of an old source and a new one.
use Rattle.std.specs.Prelude.{ℕ, ◌≡◌, ◌+◌, Bool, true, ◌&&◌, if◌then◌else◌, List, [], ◌∷◌, ◌++◌, Option, None, Some, Ok, codes, decimal, is_none, slice_get}
use Rattle.s66_isa.specs.{after_blanks, every, tally, weigh, Profile}
use Rattle.s66_line.specs.{Block}
use Rattle.s66_source.specs.{frame_of, Reading, source_of}
use Rattle.s66_compare.specs.Broken.{broken_text}
use Rattle.s66_compare.specs.Difference.{first_difference}
use Rattle.s66_compare.specs.Rows.{AreAligned, counted, has_new, has_old, is_legal, new_time, old_time}
use Rattle.s66_compare.specs.declared.difference.Difference.{Difference}
use Rattle.s66_compare.specs.declared.rows.Row.{Row}
use Rattle.s66_compare.specs.declared.rows.Row.TheVariants.{Both, NewAlone, OldAlone}
use Rattle.s66_compare.specs.declared.rows.Side.{Side}
use Rattle.s66_compare.specs.declared.verdict.BlockVerdict.{BlockVerdict}
use Rattle.s66_compare.specs.declared.verdict.BlockVerdict.TheVariants.{NotLegal, OtherNew, OtherOld, Reordered, Same}

-- BLOCKS

-- with texts by lines and instructions of the new block, else by numbers of the old one's instructions
abbrev pub not_legal_text : (texts : Bool) (new : Option Block) (order : List ℕ) (number missing : ℕ) → List ℕ
not_legal_text true (Some new) order number missing = broken_text new order number missing
not_legal_text texts new order number missing = codes " NOT LEGAL " ++ decimal number ++ codes " AFTER " ++ decimal missing

abbrev pub block_verdict_text : (texts : Bool) (new : Option Block) → BlockVerdict → (order : List ℕ) → List ℕ
block_verdict_text texts new Same order = codes " SAME"
block_verdict_text texts new Reordered order = codes " ORDER" ++ after_blanks order
block_verdict_text texts new (NotLegal number missing) order = not_legal_text texts new order number missing
block_verdict_text texts new (OtherNew line) order = codes " OTHER CODE NEW LINE " ++ decimal line
block_verdict_text texts new (OtherOld line) order = codes " OTHER CODE LINE " ++ decimal line

abbrev pub side_text : Side → List ℕ
side_text s = codes " LINE " ++ decimal s.line ++ codes " COUNT " ++ decimal s.count ++ codes " TIME " ++ decimal s.time

-- a block that one source lacks has its own half of the line
abbrev pub compared_row_text : (texts : Bool) (block : Option Block) → Row → List ℕ
compared_row_text texts block (Both old new said) = side_text old ++ codes " NEW" ++ side_text new ++ block_verdict_text texts block said.verdict said.order
compared_row_text texts block (OldAlone old) = side_text old ++ codes " GONE"
compared_row_text texts block (NewAlone new) = codes " NEW" ++ side_text new ++ codes " ADDED"

-- of a row, before which n blocks of the old source and m of the new one come; a block has the old source's number if it is in it
abbrev pub row_line : (texts : Bool) (new : List Block) (n m : ℕ) → Row → List ℕ
row_line texts new n m row = codes "BLOCK " ++ decimal (if has_old row then n + 1 else m + 1) ++ compared_row_text texts (slice_get new m) row

-- of these rows
abbrev pub row_lines : (texts : Bool) (new : List Block) (n m : ℕ) → List Row → List ℕ
row_lines texts new n m [] = []
row_lines texts new n m (row ∷ rows) =
    row_line texts new n m row ++ codes "\n" ++ row_lines texts new (counted (has_old row) n) (counted (has_new row) m) rows

-- WHAT STANDS BESIDE THEM

abbrev pub source_line_text : List ℕ → Option ℕ → List ℕ
source_line_text name None = []
source_line_text name (Some line) = name ++ decimal line

abbrev pub difference_line : Option Difference → List ℕ
difference_line None = []
difference_line (Some d) = codes "DIFFERS" ++ source_line_text (codes " LINE ") d.old ++ source_line_text (codes " NEW LINE ") d.new ++ codes "\n"

-- ALL

-- of one source, after its name
abbrev pub sums_text : List ℕ → (blocks time : ℕ) → List ℕ
sums_text name blocks time = name ++ decimal blocks ++ codes " TIME " ++ decimal time

abbrev pub total_text : (blocks time new_blocks new_time legal : ℕ) → List ℕ
total_text blocks time new_blocks new_time legal =
    sums_text (codes "TOTAL BLOCKS ") blocks time ++ sums_text (codes " NEW BLOCKS ") new_blocks new_time ++ codes " LEGAL " ++ decimal legal ++ codes "\n"

-- how many blocks each source has, what they take, and how many are the old ones in legal orders
abbrev pub total_line : List Row → List ℕ
total_line rows = total_text (tally has_old rows) (weigh old_time rows) (tally has_new rows) (weigh new_time rows) (tally is_legal rows)

-- the lines beside the rows
abbrev pub ending_text : List Row → Option Difference → List ℕ
ending_text rows difference = difference_line difference ++ total_line rows

abbrev pub compared_text : (texts : Bool) (new : List Block) → List Row → Option Difference → List ℕ
compared_text texts new rows difference = row_lines texts new 0 0 rows ++ ending_text rows difference

-- each block is the old one in a legal order, and nothing else differs
abbrev pub is_accepted : List Row → Option Difference → Bool
is_accepted rows difference = every is_legal rows && is_none difference

-- both sources are accepted; the text is of their blocks, as they are aligned, and of their frames, and the new one is the old one in
-- legal orders or not
abbrev pub IsCompared : Profile → (texts : Bool) (old new : Reading) (text : List ℕ) → Bool → Type 0
IsCompared p texts old new text accepted =
    (blocks : List Block) × (again : List Block) × (source_of old ≡ Ok blocks) × (source_of new ≡ Ok again)
    × ((rows : List Row) × AreAligned p blocks again rows
    × ((text ≡ compared_text texts again rows (first_difference (frame_of old) (frame_of new)))
    × (accepted ≡ is_accepted rows (first_difference (frame_of old) (frame_of new)))))
