-- Used by contracts within the crate alone: the lines of a source as they are kept, read line by line.
use Rattle.std.specs.Prelude.{ℕ, suc, ◌-◌, ◌==◌, if◌then◌else◌, not, Bool, true, false, List, [], ◌∷◌, ◌++◌, Option, None, Some, slice_get}
use Rattle.s66_line.specs.{Block, line_of, is_code, trim, is_trailing, Class, Comment, Other, Refused, Pad, Instruction}
use Rattle.s66_source.specs.Frame.{FramePart, block_part}
use Rattle.s66_source.specs.LeftAlone.{Flagged, class_at}
use Rattle.s66_source.specs.Source.{Line, place_after, place_at, run_after, run_at}
use Rattle.s66_source.specs.declared.kept.LineKind.{LineKind}
use Rattle.s66_source.specs.declared.kept.LineKind.TheVariants as kind

pub record KeptLine : Type 0 where
  pub bytes : List ℕ
  pub kind : LineKind
  -- those of the definition
  pub run : ℕ
  pub index : ℕ

abbrev pub kind_of : Class → LineKind
kind_of Comment = kind.Comment
kind_of Other = kind.Other
kind_of Refused = kind.Other
kind_of (Pad located) = kind.Pad
kind_of (Instruction located n) = kind.Instruction

abbrev pub kept_line : Line → KeptLine
kept_line l = record { bytes = l.bytes; kind = kind_of l.class; run = l.run; index = l.index }

-- LINE BY LINE

pub record Kept : Type 0 where
  pub lines : List KeptLine
  pub count : ℕ
  -- of the next line, unless that begins a run
  pub run : ℕ
  pub index : ℕ

abbrev pub nothing_kept : Kept
nothing_kept = record { lines = []; count = 0; run = 0; index = 0 }

-- the next line is of this class
abbrev pub put_line : Class → List ℕ → Kept → Kept
put_line c bytes kept =
    record {
      lines = kept.lines ++ record { bytes = bytes; kind = kind_of c; run = run_at kept.run c; index = place_at kept.index c } ∷ [];
      count = suc kept.count;
      run = run_after kept.run c;
      index = place_after kept.index c;
    }

-- after a line that is code or not
abbrev pub put_lines : Bool → Kept → List Flagged → Kept
put_lines after kept [] = kept
put_lines after kept (line ∷ lines) = put_lines (is_code (class_at after line)) (put_line (class_at after line) line.bytes kept) lines

-- OF A LINE, by the block that begins next, in it or later

abbrev pub begins_at : Option Block → ℕ → Bool
begins_at None number = false
begins_at (Some block) number = line_of block 1 == number

abbrev pub is_run : ℕ → Option KeptLine → Bool
is_run run None = false
is_run run (Some line) = line.run == run

-- the first line of the next block is of this run
abbrev pub runs_next : List KeptLine → ℕ → Option Block → Bool
runs_next lines run None = false
runs_next lines run (Some block) = is_run run (slice_get lines (line_of block 1 - 1))

-- of a NO: an instruction is in its run, before or after it
abbrev pub has_block_by : List KeptLine → Option Block → KeptLine → Bool
has_block_by lines next line = if line.index == 0 then runs_next lines line.run next else true

abbrev pub beside_by_kind : LineKind → (has : Bool) → Bool
beside_by_kind kind.Other has = true
beside_by_kind kind.Pad has = not has
beside_by_kind _ has = false

abbrev pub is_beside_by : List KeptLine → Option Block → KeptLine → Bool
is_beside_by lines next line = beside_by_kind line.kind (has_block_by lines next line)

-- what it is of the frame
abbrev pub part_by : List KeptLine → Option Block → ℕ → KeptLine → List FramePart
part_by lines None number line =
    if is_beside_by lines None line then record { line = number; is_block = false; bytes = trim is_trailing line.bytes } ∷ [] else []
part_by lines (Some block) number line =
    if line_of block 1 == number then block_part block ∷ []
    else (if is_beside_by lines (Some block) line then record { line = number; is_block = false; bytes = trim is_trailing line.bytes } ∷ [] else [])
