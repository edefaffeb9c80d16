-- To be believed: a block, and what it shows by the numbers of its instructions, from 1.
use Rattle.std.specs.Prelude.{ℕ, zero, suc, List, [], ◌∷◌, ◌++◌, map, Option, None, Some, slice_get}
use Rattle.s66_isa.specs.{Instr, instr_at}
use Rattle.s66_line.specs.Characters.{characters_in}
use Rattle.s66_line.specs.Operand.{constant_of}
use Rattle.s66_line.specs.InstructionText.{spelling, operation_in, operand_in, instr_in_text}

-- an instruction of a block: the number of its line, and the bytes of that line from its operation on
pub record Entry : Type 0 where
  pub instr : Instr
  pub line : ℕ
  pub bytes : List ℕ

pub record Block : Type 0 where
  pub label : List ℕ
  pub entries : List Entry

abbrev pub instrs_of : Block → List Instr
instrs_of block = map (λ (e : Entry). e.instr) block.entries

-- the entry of a number, or no entry
abbrev pub entry_at : Block → ℕ → Option Entry
entry_at block zero = None
entry_at block (suc n) = slice_get block.entries n

-- the line of an instruction; 0 of any other number
abbrev pub line_of : Block → ℕ → ℕ
line_of block n = line (entry_at block n)
  where
    line : Option Entry → ℕ
    line None = 0
    line (Some e) = e.line

-- the bytes of its line from its operation on; none of any other number
abbrev pub bytes_of : Block → ℕ → List ℕ
bytes_of block n = bytes (entry_at block n)
  where
    bytes : Option Entry → List ℕ
    bytes None = []
    bytes (Some e) = e.bytes

-- its operation and its operand in upper case
abbrev pub text_of : Block → ℕ → List ℕ
text_of block n = spelling (operation_in (bytes_of block n)) (operand_in (bytes_of block n))

-- with the characters of the operand that go on behind its blank
abbrev pub whole_text_of : Block → ℕ → List ℕ
whole_text_of block n = text_of block n ++ characters_in (bytes_of block n)

-- the text of the constant of an instruction, in upper case: the whole operand of a shift count or a mask, the constant terms of
-- a set instruction, each with its sign, and nothing of any other; and such characters
abbrev pub constants_in : Block → ℕ → List ℕ
constants_in block n = constant_of (instr_at (instrs_of block) n).op.code (operand_in (bytes_of block n)) ++ characters_in (bytes_of block n)

-- THE BLOCK OF TEXTS, each that of an instruction, without a label

-- the lines are counted from here
abbrev pub entries_of_texts : ℕ → List (List ℕ) → List Entry
entries_of_texts line [] = []
entries_of_texts line (text ∷ texts) = record { instr = instr_in_text text; line = line; bytes = text } ∷ entries_of_texts (suc line) texts

abbrev pub block_of_texts : List (List ℕ) → Block
block_of_texts texts = record { label = []; entries = entries_of_texts 1 texts }
