-- To be believed: what the blocks of a printed source are when it is read again.
use Rattle.std.specs.Prelude.{◌≡◌, ℕ, List, [], ◌∷◌, get_or, length, map, Option, None, Some}
use Rattle.s66_isa.specs.{instr_at}
use Rattle.s66_line.specs.{trim, is_trailing, Entry, Block, instrs_of, bytes_of}
use Rattle.s66_source.specs.Replaced.{others}
use Rattle.s66_source.specs.Printed.{Placed}

-- each order that is given has as many numbers as its block has instructions
abbrev pub AreComplete : List Block → List (Option Placed) → Type 0
AreComplete (block ∷ blocks) (None ∷ given) = AreComplete blocks given
AreComplete (block ∷ blocks) (Some p ∷ given) = (length p.order ≡ length block.entries) × AreComplete blocks given
AreComplete blocks given = Unit {0}

-- again is the block: its label, its instructions, and their bytes
pub record IsSameAgain (block again : Block) : Type 0 where
  pub label : again.label ≡ block.label
  pub instrs : instrs_of again ≡ instrs_of block
  pub bytes : map (λ (e : Entry). e.bytes) again.entries ≡ map (λ (e : Entry). e.bytes) block.entries

-- again is the block in this order: its label, and of each number the instruction, and its bytes without the blanks and carriage returns at their end
pub record IsPlacedAgain (block again : Block) (order : List ℕ) : Type 0 where
  pub label : again.label ≡ block.label
  pub instrs : instrs_of again ≡ map (instr_at (instrs_of block)) order
  pub bytes : map (λ (e : Entry). e.bytes) again.entries ≡ map (λ n. trim is_trailing (bytes_of block n)) order

-- a block that stands is the same, and any other is in the order that is given
abbrev pub IsGivenAgain : Block → Block → Option Placed → Type 0
IsGivenAgain block again None = IsSameAgain block again
IsGivenAgain block again (Some p) = IsPlacedAgain block again p.order

-- each block as it is given, and no block more; further blocks stand
abbrev pub AreGivenAgain : List Block → List (Option Placed) → List Block → Type 0
AreGivenAgain [] given [] = Unit {0}
AreGivenAgain (block ∷ blocks) given (again ∷ more) = IsGivenAgain block again (get_or given 0 None) × AreGivenAgain blocks (others given) more
AreGivenAgain blocks given more = ⊥
