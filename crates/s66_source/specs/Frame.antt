-- To be believed: what stands in a source beside the instructions of its blocks. Comments, remarks, and the `NO`s of runs with an instruction
-- are no part of it.
use Rattle.std.specs.Prelude.{ℕ, Bool, true, false, ◌&&◌, ◌||◌, ◌==◌, not, if◌then◌else◌, List, [], ◌∷◌, ◌++◌}
use Rattle.s66_line.specs.{Block, line_of, from_location, trim, is_trailing, ends_run}
use Rattle.s66_source.specs.LeftAlone.{Reading}
use Rattle.s66_source.specs.Roles.{has_block, is_pad_class}
use Rattle.s66_source.specs.Source.{Line, blocks_of, classed_lines}

-- the place of a block, or another line
pub record FramePart : Type 0 where
  -- the number of the line, or of that of the block's first instruction
  pub line : ℕ
  pub is_block : Bool
  -- the label of the block, or the line
  pub bytes : List ℕ

-- a label counts without the blank of column 1
abbrev pub block_part : Block → FramePart
block_part block = record { line = line_of block 1; is_block = true; bytes = from_location block.label }

-- a line counts without the blanks and carriage returns at its end
abbrev pub line_part : Line → FramePart
line_part line = record { line = line.number; is_block = false; bytes = trim is_trailing line.bytes }

-- an Other line, or a `NO` of a run without an instruction
abbrev pub is_beside : List Line → Line → Bool
is_beside all line = ends_run line.class || (is_pad_class line.class && not (has_block all line))

abbrev pub part_beside : List Line → Line → List FramePart
part_beside all line = if is_beside all line then line_part line ∷ [] else []

-- line by line: the next block in the place of its first instruction, and else the line if it is beside
abbrev pub frame_of_lines : List Line → List Block → List Line → List FramePart
frame_of_lines all blocks [] = []
frame_of_lines all [] (line ∷ lines) = part_beside all line ++ frame_of_lines all [] lines
frame_of_lines all (block ∷ blocks) (line ∷ lines) =
    if line_of block 1 == line.number then block_part block ∷ frame_of_lines all blocks lines
    else (part_beside all line ++ frame_of_lines all (block ∷ blocks) lines)

abbrev pub frame_of : Reading → List FramePart
frame_of source = frame_of_lines (classed_lines source) (blocks_of (classed_lines source)) (classed_lines source)
