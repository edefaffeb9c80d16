-- To be believed: what `sum` writes for a source, and how it ends. There is a row for each block, those first whose orders save
-- most time, what all blocks take, and how many instructions their orders move, for answers of searches as those of `order`. With the trace each line has its splits, and with
-- `--words` the words that a block takes, or the loop that a branch behind it closes. A row ends with the name by which its block is entered. Before them stands what a profile has
-- otherwise than the standard one.
use Rattle.std.specs.Prelude.{ℕ, ◌+◌, ◌-◌, ◌≡◌, ◌≤◌, ◌<◌, ◌⊎◌, ◌==◌, if◌then◌else◌, Bool, List, [], ◌∷◌, ◌++◌, Option, None, Some, IsPermutation, codes, decimal, length, slice_index_or, unwrap_or}
use Rattle.s66_isa.specs.{tally, weigh, numbers, Profile}
use Rattle.s66_command.specs.{SumStyle, Strategy, changes, changes_text, Change}
use Rattle.s66_device.specs.{printable}
use Rattle.s66_line.specs.{instrs_of, line_of, Block}
use Rattle.s66_source.specs.{Placed, Reading}
use Rattle.s66_answer.specs.{IsOfAnswers, before, shown, Status}
use Rattle.s66_program.specs.Moved.{moved}
use Rattle.s66_program.specs.Entries.{entries_of, entry_at}
use Rattle.s66_program.specs.Loops.{Orders, loop_at, loops_of}
use Rattle.s66_program.specs.Words.{words_of}
use Rattle.s66_program.specs.declared.loops.Loop.{Loop}
use Rattle.s66_program.specs.OrderText.{all_placed}
use Rattle.s66_program.specs.declared.sum_text.LineEnd.{LineEnd}
use Rattle.s66_program.specs.declared.sum_text.Row.{Row}
use Rattle.s66_program.specs.declared.sum_text.Total.{Total}

-- ROWS

-- of the n-th block, from 1, as `order` prints it
abbrev pub sum_row_of : ℕ → Block → Placed → Row
sum_row_of n block p =
    record {
      number = n;
      line = line_of block 1;
      count = length (instrs_of block);
      source = p.source;
      time = p.time;
      saved = p.source - p.time;
      bound = p.bound;
      moved = moved p.order;
      splits = p.splits;
      source_words = words_of (instrs_of block) (numbers (instrs_of block));
      words = words_of (instrs_of block) p.order;
    }

-- of these blocks, before which n come
abbrev pub sum_rows_of : ℕ → List Block → List Placed → List Row
sum_rows_of n (block ∷ blocks) (p ∷ ps) = sum_row_of (n + 1) block p ∷ sum_rows_of (n + 1) blocks ps
sum_rows_of n blocks ps = []

-- in the order of their blocks
abbrev pub AreNumbered : List Row → Type 0
AreNumbered rows = (k : ℕ) (d : Row) → k + 1 < length rows → (slice_index_or rows k d).number ≤ (slice_index_or rows (k + 1) d).number

abbrev pub is_row_best : Row → Bool
is_row_best r = r.bound == r.time

-- the first saves more, or as much with a number that is no greater
abbrev pub MayPrecede : Row → Row → Type 0
MayPrecede r s = (s.saved < r.saved) ⊎ ((s.saved ≡ r.saved) × (r.number ≤ s.number))

abbrev pub AreInOrder : List Row → Type 0
AreInOrder rows = (k : ℕ) (d : Row) → k + 1 < length rows → MayPrecede (slice_index_or rows k d) (slice_index_or rows (k + 1) d)

-- THE TEXT

abbrev pub sum_bound_text : Row → List ℕ
sum_bound_text r = if is_row_best r then codes " BEST" else (codes " AT LEAST " ++ decimal r.bound)

-- how many splits there are, if that is to be printed
abbrev pub splits_text : Option ℕ → List ℕ
splits_text None = []
splits_text (Some splits) = codes " SPLITS " ++ decimal splits

-- how many words are taken as written and as ordered, if that is to be printed
abbrev pub words_text : (shown : Bool) → LineEnd → List ℕ
words_text shown e = if shown then (codes " WORDS " ++ decimal e.source_words ++ codes " FOUND " ++ decimal e.words) else []

-- how many instructions orders move, splits and words
abbrev pub sum_counts_text : (words : Bool) → LineEnd → List ℕ
sum_counts_text words e = codes " MOVED " ++ decimal e.moved ++ splits_text e.splits ++ words_text words e

-- the end of a line
abbrev pub line_end : (words : Bool) → LineEnd → List ℕ
line_end words e = sum_counts_text words e ++ codes "\n"

-- that of a row; the words are those of the loop that a branch behind its block closes, or else of the block
abbrev pub ending_of : Option Loop → Row → LineEnd
ending_of None r = record { moved = r.moved; splits = r.splits; source_words = r.source_words; words = r.words }
ending_of (Some l) r = record { moved = r.moved; splits = r.splits; source_words = l.source_words; words = l.words }

-- that words are those of a loop, if they are printed
abbrev pub loop_mark : (shown : Bool) → Option Loop → List ℕ
loop_mark shown None = []
loop_mark shown (Some l) = if shown then codes " LOOP" else []

-- the name by which a block is entered, if there is one, with `?` for each control character
abbrev pub entry_text : (name : List ℕ) → List ℕ
entry_text [] = []
entry_text (b ∷ name) = codes " ENTRY " ++ printable (b ∷ name)

abbrev pub row_end : (words : Bool) → Option Loop → (entry : List ℕ) → Row → List ℕ
row_end words closed entry r = sum_counts_text words (ending_of closed r) ++ loop_mark words closed ++ entry_text entry ++ codes "\n"

abbrev pub sum_row_line : (words : Bool) → Option Loop → (entry : List ℕ) → Row → List ℕ
sum_row_line words closed entry r =
    codes "BLOCK " ++ decimal r.number ++ codes " LINE " ++ decimal r.line ++ codes " COUNT " ++ decimal r.count ++ codes " SOURCE "
    ++ decimal r.source ++ codes " TIME " ++ decimal r.time ++ sum_bound_text r
    ++ row_end words closed entry r

-- by the loops behind all blocks of the source, and their names
abbrev pub sum_row_lines : (words : Bool) → List (Option Loop) → (entries : List (List ℕ)) → List Row → List ℕ
sum_row_lines words loops entries [] = []
sum_row_lines words loops entries (r ∷ rows) = sum_row_line words (loop_at loops r.number) (entry_at entries r.number) r ++ sum_row_lines words loops entries rows

-- the splits of a row
abbrev pub splits_in : Row → ℕ
splits_in r = unwrap_or r.splits 0

-- of all rows, with the trace
abbrev pub all_splits : Bool → List Row → Option ℕ
all_splits trace rows = if trace then Some (weigh splits_in rows) else None

-- what all rows come to, with the trace also in splits
abbrev pub sum_total_of : (trace : Bool) → List Row → Total
sum_total_of trace rows =
    record {
      blocks = length rows;
      source = weigh (λ (r : Row). r.source) rows;
      time = weigh (λ (r : Row). r.time) rows;
      best = tally is_row_best rows;
      ending = record { moved = weigh (λ (r : Row). r.moved) rows; splits = all_splits trace rows; source_words = weigh (λ (r : Row). r.source_words) rows; words = weigh (λ (r : Row). r.words) rows };
    }

-- how many blocks there are, and what they take as written and as ordered
abbrev pub total_times : Total → List ℕ
total_times t = codes "TOTAL BLOCKS " ++ decimal t.blocks ++ codes " SOURCE " ++ decimal t.source ++ codes " TIME " ++ decimal t.time

-- and how many orders are best, and the end of the line
abbrev pub sum_total_line : (words : Bool) → Total → List ℕ
sum_total_line words t = total_times t ++ codes " BEST " ++ decimal t.best ++ line_end words t.ending

-- the numbers of the profile that aren't the standard profile's, if there are any
abbrev pub sum_profile_line : List Change → List ℕ
sum_profile_line [] = []
sum_profile_line (c ∷ cs) = codes "PROFILE" ++ changes_text (c ∷ cs) ++ codes "\n"

-- the profile, the rows in their order, and their sums
abbrev pub IsSumText : Profile → SumStyle → List (Option Loop) → (entries : List (List ℕ)) (rows : List Row) (text : List ℕ) → Type 0
IsSumText p style loops entries rows text =
    (ordered : List Row) × IsPermutation rows ordered × AreInOrder ordered
    × (text ≡ sum_profile_line (changes p) ++ sum_row_lines style.words loops entries ordered ++ sum_total_line style.words (sum_total_of style.trace rows))

-- the blocks that are shown with the orders that were found for them
abbrev pub orders_of : (only : Option ℕ) → List Block → List Placed → Orders
orders_of only blocks ps = record { before = before only; blocks = blocks; found = ps }

-- the rows of what `order` would print of the blocks that are shown
abbrev pub IsSumOutput : Strategy → Profile → SumStyle → (only : Option ℕ) (source : Reading) (text : List ℕ) → Status → Type 0
IsSumOutput strategy p style only source text status =
    IsOfAnswers (λ blocks answers. let ps = all_placed p style.trace blocks answers in
    IsSumText p style (loops_of (orders_of only blocks ps) source) (entries_of source) (sum_rows_of (before only) blocks ps) text) strategy p only source status
