-- To be believed: what the text of an instruction is.
use Rattle.std.specs.Prelude.{◌≡◌, ◌≤◌, ℕ, List, [], ◌∷◌, ◌++◌, Option, None, Some, length}
use Rattle.s66_isa.specs.{Instr, idle_instr}
use Rattle.s66_line.specs.declared.limits.TheConstants.{TEXT_LIMIT}
use Rattle.s66_line.specs.Fields.{upper, word, skip_blanks, after_word}
use Rattle.s66_line.specs.Operand.{instr_of}

-- an operation, and a blank and its operand if it has one
abbrev pub spelling : List ℕ → List ℕ → List ℕ
spelling operation [] = operation
spelling operation (b ∷ operand) = operation ++ 32 ∷ b ∷ operand

-- OF BYTES that begin with an operation, whatever follows the operand

abbrev pub operation_in : List ℕ → List ℕ
operation_in bytes = upper (word bytes)

abbrev pub operand_in : List ℕ → List ℕ
operand_in bytes = upper (word (skip_blanks (after_word bytes)))

-- in upper case or in lower case, they spell this instruction
abbrev pub Spells : List ℕ → Instr → Type 0
Spells bytes n = instr_of (operation_in bytes) (operand_in bytes) ≡ Some n

-- the instruction that they spell, or one that does nothing if they spell none
abbrev pub instr_in_text : List ℕ → Instr
instr_in_text bytes = spelled (instr_of (operation_in bytes) (operand_in bytes))
  where
    spelled : Option Instr → Instr
    spelled None = idle_instr
    spelled (Some n) = n

-- the text of this instruction: an operation and an operand that spell it, in upper case, and nothing more
pub record IsTextOf (text : List ℕ) (n : Instr) : Type 0 where
  pub whole : text ≡ spelling (operation_in text) (operand_in text)
  pub spells : Spells text n
  pub fits : length text ≤ TEXT_LIMIT

pub record IsInstruction (text : List ℕ) : Type 0 where
  pub instr : Instr
  pub is_text : IsTextOf text instr
