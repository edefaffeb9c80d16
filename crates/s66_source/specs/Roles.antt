-- To be believed: what becomes of each line of a source when its blocks are printed in another order.
use Rattle.std.specs.Prelude.{◌&&◌, ◌||◌, ◌==◌, not, codes, ◌++◌, ℕ, Bool, true, false, List, [], ◌∷◌, length, map, nat_lt, filter}
use Rattle.s66_isa.specs.{some_of}
use Rattle.s66_line.specs.{Class, Comment, Pad, Block, line_of, is_instruction, ends_run}
use Rattle.s66_source.specs.LeftAlone.{Reading}
use Rattle.s66_source.specs.Source.{Line, classed_lines, blocks_of}

abbrev pub is_comment_class : Class → Bool
is_comment_class Comment = true
is_comment_class class = false

abbrev pub is_pad_class : Class → Bool
is_pad_class (Pad located) = true
is_pad_class class = false

-- a comment between the first and the last instruction of the block: it moves in front of the block
abbrev pub is_note_of : Line → Block → Bool
is_note_of line block =
    is_comment_class line.class && nat_lt (line_of block 1) line.number && nat_lt line.number (line_of block (length block.entries))

abbrev pub is_note : List Line → Line → Bool
is_note lines line = some_of (is_note_of line) (blocks_of lines)

-- an instruction is in its run
abbrev pub has_block : List Line → Line → Bool
has_block lines line = some_of (λ (l : Line). l.run == line.run && is_instruction l.class) lines

-- a Pad of a run with an instruction: it is left out, with its comment
abbrev pub is_dropped : List Line → Line → Bool
is_dropped lines line = is_pad_class line.class && has_block lines line

-- a Pad before which no instruction of its run comes
abbrev pub is_leading : List Line → Line → Bool
is_leading lines line = is_pad_class line.class && line.index == 0

-- an Other line, a comment that is no note, or a Pad of a run without an instruction: it is printed in its place, without the
-- carriage returns at its end
abbrev pub is_copied : List Line → Line → Bool
is_copied lines line =
    ends_run line.class || (is_comment_class line.class && not (is_note lines line) || is_pad_class line.class && not (has_block lines line))

-- what it is: an instruction of a block, a note, left out, copied
abbrev pub roles : List Line → Line → List Bool
roles lines line = is_instruction line.class ∷ is_note lines line ∷ is_dropped lines line ∷ is_copied lines line ∷ []

-- the numbers of the lines of a source that are so
abbrev pub lines_that : (List Line → Line → Bool) → Reading → List ℕ
lines_that are source = map (λ (l : Line). l.number) (filter (are (classed_lines source)) (classed_lines source))

-- A SOURCE with lines of each sort

abbrev pub mixed_source : List ℕ
mixed_source =
    codes "* TEST\n" ++ codes "LOOP      SA1 A1+1     LOAD\n" ++ codes "          NO\n" ++ codes "* NOTE\n" ++ codes "          BX6 X1\n"
    ++ codes "+         SA6 A6+B1    STORE\n" ++ codes "          ZR X1,LOOP\n" ++ codes "          BX1 X2\n" ++ codes "          VFD 60/0\n"

-- comments around a block, and a NO in a run without an instruction
abbrev pub outside_source : List ℕ
outside_source =
    codes "* BEFORE\n" ++ codes "  NO\n" ++ codes "  ZR X1,L\n" ++ codes "  NO\n" ++ codes "* BETWEEN\n" ++ codes "  BX1 X2\n" ++ codes "  NO\n" ++ codes "* AFTER\n"
