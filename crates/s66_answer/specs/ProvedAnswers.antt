-- Used by contracts: blocks whose texts spell their instructions.
use Rattle.std.specs.Prelude.{ℕ, ◌≤◌, length}
use Rattle.s66_isa.specs.{instr_at, BLOCK_LIMIT}
use Rattle.s66_line.specs.{instrs_of, text_of, Block, IsTextOf}

-- the text of each of the first instructions, this many, is one of it
abbrev pub IsSpelledTo : Block → ℕ → Type 0
IsSpelledTo block k = (n : ℕ) → 1 ≤ n → n ≤ k → IsTextOf (text_of block n) (instr_at (instrs_of block) n)

abbrev pub IsSpelled : Block → Type 0
IsSpelled block = IsSpelledTo block (length (instrs_of block))

-- a block as sources have them: its instructions, not too many, are those that its texts spell
abbrev pub IsSpelledBlock : Block → Type 0
IsSpelledBlock block = (1 ≤ length (instrs_of block)) × (length (instrs_of block) ≤ BLOCK_LIMIT) × IsSpelled block
