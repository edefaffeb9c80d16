-- To be believed: a dependence that a new block breaks, by lines and instructions: which instruction comes before which, and why it must not.
use Rattle.std.specs.Prelude.{ℕ, ◌+◌, ◌-◌, ◌==◌, if◌then◌else◌, Option, None, Some, List, [], ◌∷◌, ◌++◌, codes, decimal, get_or, length}
use Rattle.s66_isa.specs.{least_from, has_reg, instr_at, memory_of, reads_of, results_of, Instr, Memory, Reg}
use Rattle.s66_isa.specs.declared.instr.Memory.TheVariants as memory
use Rattle.s66_device.specs.{printable}
use Rattle.s66_line.specs.{Block, instrs_of, line_of, whole_text_of}
use Rattle.s66_why.specs.{register_name}

-- WHY an instruction depends on one before it

-- the first of these registers that is among others
abbrev pub first_shared : List Reg → List Reg → Option Reg
first_shared [] ss = None
first_shared (r ∷ rs) ss = if has_reg r ss then Some r else first_shared rs ss

-- a register, if there is one, and the kind of dependence; else what else is the reason
abbrev pub by_register : Option Reg → (kind other : List ℕ) → List ℕ
by_register None kind other = other
by_register (Some r) kind other = register_name r ++ kind

abbrev pub access : Memory → List ℕ
access memory.Store = codes "write"
access memory.Load = codes "read"
access memory.None = codes "read"

abbrev pub memory_reason : (first later : Memory) → List ℕ
memory_reason first later = codes "memory " ++ access later ++ codes " after " ++ access first

-- n comes after m
abbrev pub reason : (m n : Instr) → List ℕ
reason m n =
    by_register (first_shared (results_of m) (reads_of n)) (codes " read after write")
    (by_register (first_shared (results_of m) (results_of n)) (codes " write after write")
    (by_register (first_shared (reads_of m) (results_of n)) (codes " write after read") (memory_reason (memory_of m) (memory_of n))))

-- WHERE

-- the place of a number in an order of so many, from 0; the last if it has none before
abbrev pub place_of : (count : ℕ) (order : List ℕ) → ℕ → ℕ
place_of count order n = least_from (λ k. get_or order k 0 == n) (count - 1) 0

-- an instruction, by its line and its text, with `?` for each control character of it
abbrev pub instruction_text : (name : List ℕ) → Block → ℕ → List ℕ
instruction_text name block n = name ++ decimal (line_of block n) ++ codes " " ++ printable (whole_text_of block n)

abbrev pub pair_text : Block → (early late : ℕ) → List ℕ
pair_text new early late = instruction_text (codes " NOT LEGAL LINE ") new early ++ instruction_text (codes " BEFORE LINE ") new late

-- the instructions at these two numbers of the new block, of which the second has to come first
abbrev pub broken_at : Block → (early late : ℕ) → List ℕ
broken_at new early late = pair_text new early late ++ codes ": " ++ reason (instr_at (instrs_of new) late) (instr_at (instrs_of new) early)

-- the new block's instructions come in this order of the old one's, in which a number comes before one that is missing there
abbrev pub broken_text : (new : Block) (order : List ℕ) (number missing : ℕ) → List ℕ
broken_text new order number missing =
    broken_at new (place_of (length (instrs_of new)) order number + 1) (place_of (length (instrs_of new)) order missing + 1)
