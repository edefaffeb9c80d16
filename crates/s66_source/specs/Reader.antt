-- Used by contracts within the crate alone: a source read line by line: the blocks so far, and the instructions of the open one.
use Rattle.std.specs.Prelude.{◌≡◌, ◌==◌, if◌then◌else◌, ℕ, suc, Bool, true, false, List, [], ◌∷◌, ◌++◌, Result, Ok, Err, nat_lt, nat_le, length}
use Rattle.s66_isa.specs.{Instr, BLOCK_LIMIT}
use Rattle.s66_line.specs.{body, from_operation, label_bytes, Block, Entry, Class, Comment, Other, Refused, Pad, Instruction, LINE_BYTES_LIMIT}
use Rattle.s66_source.specs.LeftAlone.{Flagged, class_at}
use Rattle.s66_source.specs.declared.limits.TheConstants.{SOURCE_LINES_LIMIT}
use Rattle.s66_source.specs.declared.error.SourceError.{SourceError}
use Rattle.s66_source.specs.declared.error.SourceError.TheVariants.{BadOperand, LineTooLong, TooLarge, OutOfMemory}

pub record SourceState : Type 0 where
  pub blocks : List Block
  -- the label of the run until its first block is ended; none from then on
  pub label : List ℕ
  -- the instructions of the block that is not ended, fewer than BLOCK_LIMIT
  pub entries : List Entry
  -- how many lines were read
  pub count : ℕ
  -- the last of them is an Instruction or a Pad
  pub after : Bool

abbrev pub start : SourceState
start = record { blocks = []; label = []; entries = []; count = 0; after = false }

-- the blocks, and then the open one if it has an instruction
abbrev pub with_open : List Block → List ℕ → List Entry → List Block
with_open blocks label [] = blocks
with_open blocks label (e ∷ es) = blocks ++ record { label = label; entries = e ∷ es } ∷ []

abbrev pub end_block : SourceState → SourceState
end_block s = record s { blocks = with_open s.blocks s.label s.entries; label = []; entries = [] }

-- the open block ends, and a run with this label begins
abbrev pub begin_run : List ℕ → SourceState → SourceState
begin_run label s = record (end_block s) { label = label }

abbrev pub begin_run_if : Bool → List ℕ → SourceState → SourceState
begin_run_if located label s = if located then begin_run label s else s

-- it ends if it is full, too
abbrev pub end_block_if_full : SourceState → SourceState
end_block_if_full s = if length s.entries == BLOCK_LIMIT then end_block s else s

abbrev pub with_entry : Instr → List ℕ → SourceState → SourceState
with_entry n bytes s =
    end_block_if_full (record s { entries = s.entries ++ record { instr = n; line = suc s.count; bytes = bytes } ∷ [] })

abbrev pub count_line : Bool → SourceState → SourceState
count_line after s = record s { count = suc s.count; after = after }

-- the next line is of this class, with its label and its bytes from the operation on
abbrev pub by_class : SourceState → Class → List ℕ → List ℕ → Result SourceState SourceError
by_class s Comment label bytes = Ok (count_line false s)
by_class s Other label bytes = Ok (count_line false (end_block s))
by_class s Refused label bytes = Err (BadOperand (suc s.count))
by_class s (Pad located) label bytes = Ok (count_line true (begin_run_if located label s))
by_class s (Instruction located n) label bytes = Ok (count_line true (with_entry n bytes (begin_run_if located label s)))

abbrev pub line_step : SourceState → Flagged → Result SourceState SourceError
line_step s line =
    if nat_lt LINE_BYTES_LIMIT (length line.bytes) then Err (LineTooLong (suc s.count))
    else (if nat_le SOURCE_LINES_LIMIT s.count then Err TooLarge else by_class s (class_at s.after line) (label_bytes (body line.bytes)) (from_operation (body line.bytes)))

abbrev pub and_then : {A B : Type 0} → Result A SourceError → (A → Result B SourceError) → Result B SourceError
and_then (Ok x) next = next x
and_then (Err e) next = Err e

abbrev pub lines_step : SourceState → List Flagged → Result SourceState SourceError
lines_step s [] = Ok s
lines_step s (line ∷ lines) = and_then (line_step s line) (λ t. lines_step t lines)

-- the blocks of all lines
abbrev pub read_from : SourceState → List Flagged → Result (List Block) SourceError
read_from s lines = and_then (lines_step s lines) (λ t. Ok (with_open t.blocks t.label t.entries))

-- what changed is what the step makes, and a refusal is its refusal, unless memory was refused
abbrev pub Steps : SourceState → Result (Unit {0}) SourceError → Result SourceState SourceError → Type 0
Steps new (Ok u) made = made ≡ Ok new
Steps new (Err OutOfMemory) made = Unit {0}
Steps new (Err e) made = made ≡ Err e
