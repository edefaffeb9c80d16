-- To be believed: the lines of a source with their classes, its blocks, and its least refused line.
use Rattle.std.specs.Prelude.{◌==◌, if◌then◌else◌, ℕ, suc, Bool, false, List, [], ◌∷◌, ◌%◌, Option, None, Some, Result, Ok, Err, nat_lt, length, map, filter}
use Rattle.s66_isa.specs.{BLOCK_LIMIT}
use Rattle.s66_line.specs.{body, from_operation, label_bytes, Entry, Block, is_instruction, is_code, begins_run, ends_run, instr_in, Class, Refused, LINE_BYTES_LIMIT}
use Rattle.s66_source.specs.LeftAlone.{Reading, Flagged, class_at, flagged_lines}
use Rattle.s66_source.specs.declared.limits.TheConstants.{SOURCE_LINES_LIMIT}
use Rattle.s66_source.specs.declared.error.SourceError.{SourceError}
use Rattle.s66_source.specs.declared.error.SourceError.TheVariants.{BadOperand, LineTooLong, TooLarge}

-- LINES with their numbers, from 1, classes and runs

pub record Line : Type 0 where
  pub number : ℕ
  pub bytes : List ℕ
  pub class : Class
  -- two lines of code are in one run if none after the first, up to and with the second, begins a run, and no Other line is
  -- between
  pub run : ℕ
  -- of an instruction: how many instructions of its run come before it
  pub index : ℕ
  -- the label of its run
  pub label : List ℕ

abbrev pub run_at : ℕ → Class → ℕ
run_at run c = if begins_run c then suc run else run

abbrev pub run_after : ℕ → Class → ℕ
run_after run c = if ends_run c then suc (run_at run c) else run_at run c

abbrev pub place_at : ℕ → Class → ℕ
place_at index c = if begins_run c then 0 else index

abbrev pub place_after : ℕ → Class → ℕ
place_after index c = if ends_run c then 0 else (if is_instruction c then suc (place_at index c) else place_at index c)

-- the location field of the line that begins a run is its label
abbrev pub label_at : List ℕ → Class → List ℕ → List ℕ
label_at label c line = if begins_run c then label_bytes (body line) else label

abbrev pub label_after : List ℕ → Class → List ℕ → List ℕ
label_after label c line = if ends_run c then [] else label_at label c line

-- after: the line directly before is an Instruction or a Pad, so that a comma in column 1 would continue it
abbrev pub classes_from : ℕ → ℕ → ℕ → List ℕ → Bool → List Flagged → List Line
classes_from number run index label after [] = []
classes_from number run index label after (line ∷ lines) =
    record {
      number = number;
      bytes = line.bytes;
      class = class_at after line;
      run = run_at run (class_at after line);
      index = place_at index (class_at after line);
      label = label_at label (class_at after line) line.bytes;
    }
    ∷ classes_from (suc number) (run_after run (class_at after line)) (place_after index (class_at after line)) (label_after label (class_at after line) line.bytes)
    (is_code (class_at after line)) lines

-- each line with its number, class, run, the number of instructions of its run before it, and the label of its run. Two lines of code
-- are in one run if none after the first, up to and with the second, begins a run, and no other line is between them
abbrev pub classed_lines : Reading → List Line
classed_lines source = classes_from 1 0 0 [] false (flagged_lines source)

-- THE LEAST REFUSED LINE: too long, then too many lines, then a bad operand

abbrev pub operand_refusal : ℕ → Class → Option SourceError
operand_refusal number Refused = Some (BadOperand number)
operand_refusal number class = None

abbrev pub refusal_at : Line → Option SourceError
refusal_at line =
    if nat_lt LINE_BYTES_LIMIT (length line.bytes) then Some (LineTooLong line.number)
    else (if nat_lt SOURCE_LINES_LIMIT line.number then Some TooLarge else operand_refusal line.number line.class)

abbrev pub or_else : Option SourceError → Option SourceError → Option SourceError
or_else (Some e) f = Some e
or_else None f = f

abbrev pub refusal : List Line → Option SourceError
refusal [] = None
refusal (line ∷ lines) = or_else (refusal_at line) (refusal lines)

-- BLOCKS: the instructions of a run, cut after each BLOCK_LIMIT

abbrev pub instructions : List Line → List Line
instructions lines = filter (λ l. is_instruction l.class) lines

-- of an instruction: it is the first of its run, or the run was cut before it
abbrev pub begins_block : Line → Bool
begins_block line = line.index % BLOCK_LIMIT == 0

-- a line before the first of these blocks: it joins that block, or is one if that block begins anew
abbrev pub put_before : Line → List (List Line) → List (List Line)
put_before line [] = (line ∷ []) ∷ []
put_before line ([] ∷ blocks) = (line ∷ []) ∷ blocks
put_before line ((next ∷ more) ∷ blocks) =
    if begins_block next then (line ∷ []) ∷ (next ∷ more) ∷ blocks else (line ∷ next ∷ more) ∷ blocks

-- instruction lines, cut where a block begins
abbrev pub parts_of : List Line → List (List Line)
parts_of [] = []
parts_of (line ∷ lines) = put_before line (parts_of lines)

abbrev pub entry_of : Line → Entry
entry_of line = record { instr = instr_in line.class; line = line.number; bytes = from_operation (body line.bytes) }

-- the first block of a run has its label
abbrev pub label_in : List Line → List ℕ
label_in [] = []
label_in (line ∷ lines) = if line.index == 0 then line.label else []

-- its label (empty but in the first of a run) and its entries, each an instruction with its line and the bytes of that line from the
-- operation on
abbrev pub block_of : List Line → Block
block_of part = record { label = label_in part; entries = map entry_of part }

abbrev pub blocks_of : List Line → List Block
blocks_of lines = map block_of (parts_of (instructions lines))

abbrev pub unless_refused : Option SourceError → List Block → Result (List Block) SourceError
unless_refused None blocks = Ok blocks
unless_refused (Some e) blocks = Err e

-- the blocks of a source, or its least refused line
abbrev pub source_of : Reading → Result (List Block) SourceError
source_of source = unless_refused (refusal (classed_lines source)) (blocks_of (classed_lines source))
