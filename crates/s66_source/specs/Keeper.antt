-- Used by contracts within the crate alone: a source that is printed line by line, by the lines that are kept of it.
use Rattle.std.specs.Prelude.{◌≡◌, ◌==◌, ℕ, zero, suc, Bool, if◌then◌else◌, List, [], ◌++◌, codes, get_or, length, map, nat_lt, slice_get, is_some, Option, None, Some, Ok}
use Rattle.s66_line.specs.{Block, Entry, line_of, body}
use Rattle.s66_source.specs.Columns.{indent}
use Rattle.s66_source.specs.Kept.{KeptLine, has_block_by, kept_line}
use Rattle.s66_source.specs.LeftAlone.{Reading}
use Rattle.s66_source.specs.Printed.{Placed}
use Rattle.s66_source.specs.Replaced.{AreGiven, anew_text, printed_in}
use Rattle.s66_source.specs.Source.{blocks_of, classed_lines, source_of}
use Rattle.s66_source.specs.declared.columns.Columns.{Columns}
use Rattle.s66_source.specs.declared.kept.LineKind.{LineKind}
use Rattle.s66_source.specs.declared.kept.LineKind.TheVariants as kind

pub record Keeper : Type 0 where
  pub source : Reading
  pub given : List (Option Placed)
  pub quiet : Bool
  pub columns : Columns

pub record IsKeeper (k : Keeper) : Type 0 where
  pub accepted : source_of k.source ≡ Ok (blocks_of (classed_lines k.source))
  pub given : AreGiven (blocks_of (classed_lines k.source)) k.given

-- how the block of this number is printed anew
abbrev pub placed_of : List Block → List (Option Placed) → ℕ → Option Placed
placed_of blocks gs zero = None
placed_of blocks gs (suc i) = if nat_lt i (length blocks) then get_or gs i None else None

-- OF WHICH BLOCK A LINE IS, before which so many blocks begin

abbrev pub last_in : Option Block → ℕ
last_in None = 0
last_in (Some block) = line_of block (length block.entries)

-- the last line of the block of this number, from 1; 0 of any other number
abbrev pub last_of : List Block → ℕ → ℕ
last_of blocks zero = 0
last_of blocks (suc i) = last_in (slice_get blocks i)

-- of one in which no block begins: whether it is before the end of the last block, whether an instruction is in its run, and none before it
abbrev pub owner_by_kind : LineKind → (note has leading : Bool) → ℕ → ℕ
owner_by_kind kind.Instruction note has leading begun = begun
owner_by_kind kind.Comment note has leading begun = if note then begun else 0
owner_by_kind kind.Pad note has leading begun = if has then (if leading then suc begun else begun) else 0
owner_by_kind kind.Other note has leading begun = 0

abbrev pub owner_by : List KeptLine → List Block → (number begun : ℕ) → (begins : Bool) → KeptLine → ℕ
owner_by lines blocks number begun begins line =
    if begins then suc begun
    else owner_by_kind line.kind (nat_lt number (last_of blocks begun)) (has_block_by lines (slice_get blocks begun) line) (line.index == 0) begun

-- WHAT IS PRINTED of a block

abbrev pub bytes_in : Option KeptLine → List ℕ
bytes_in None = []
bytes_in (Some line) = line.bytes

-- the bytes of the line of this number, from 1; none of any other number
abbrev pub bytes_at : List KeptLine → ℕ → List ℕ
bytes_at lines zero = []
bytes_at lines (suc n) = bytes_in (slice_get lines n)

-- the blanks before each instruction
abbrev pub indents_by : Columns → List KeptLine → Block → List ℕ
indents_by columns lines block = map (λ (e : Entry). indent columns (bytes_at lines e.line)) block.entries

abbrev pub note_by_kind : LineKind → List ℕ → List ℕ
note_by_kind kind.Comment bytes = body bytes ++ codes "\n"
note_by_kind _ bytes = []

-- a line, if it is a comment
abbrev pub note_in : Option KeptLine → List ℕ
note_in None = []
note_in (Some line) = note_by_kind line.kind line.bytes

-- WHAT IS PRINTED for a line

-- the block that begins next, if that is in this line
abbrev pub block_at : Option Block → ℕ → Option Block
block_at None number = None
block_at (Some block) number = if line_of block 1 == number then Some block else None

-- by how its block is printed anew, and by that which begins in it, the n-th
abbrev pub text_in : Keeper → ℕ → Option Placed → Option Block → List ℕ → List ℕ
text_in k n None block bytes = body bytes ++ codes "\n"
text_in k n (Some p) None bytes = []
text_in k n (Some p) (Some block) bytes = anew_text k.quiet k.columns (classed_lines k.source) n block p

abbrev pub text_by : Keeper → (number begun : ℕ) → KeptLine → List ℕ
text_by k number begun line =
    let all = classed_lines k.source in
    let block = block_at (slice_get (blocks_of all) begun) number in
    text_in k (suc begun) (placed_of (blocks_of all) k.given (owner_by (map kept_line all) (blocks_of all) number begun (is_some block) line)) block line.bytes

-- what is printed for all lines
abbrev pub whole_text : Keeper → List ℕ
whole_text k = printed_in k.quiet k.columns k.source k.given
