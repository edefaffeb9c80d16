-- To be believed: what `deps` writes of a source, and how it ends: for each block a line, and a line for each instruction that
-- depends on some; with `--text` a line for each pair.
use Rattle.std.specs.Prelude.{ℕ, Bool, if◌then◌else◌, List, [], ◌∷◌, ◌++◌, length, Option, codes, decimal, flat_map}
use Rattle.s66_isa.specs.{Instr, after_blanks, weigh, instr_at, numbers}
use Rattle.s66_model.specs.{needs, all_needs}
use Rattle.s66_line.specs.{instrs_of, text_of, Block}
use Rattle.s66_source.specs.{Reading}
use Rattle.s66_why.specs.{hazards, hazards_text}
use Rattle.s66_answer.specs.{Status}
use Rattle.s66_program.specs.BlockHead.{block_head}
use Rattle.s66_program.specs.Listing.{IsListing}

-- how many pairs of instructions depend
abbrev pub dependences_in : List Instr → ℕ
dependences_in block = weigh (λ (ns : List ℕ). length ns) (all_needs block)

-- the line of the n-th block, from 1
abbrev pub deps_line : ℕ → Block → List ℕ
deps_line n block =
    block_head n block ++ codes " COUNT " ++ decimal (length (instrs_of block))
    ++ codes " DEPENDENCES " ++ decimal (dependences_in (instrs_of block)) ++ codes "\n"

-- the line of an instruction, by the numbers on which it depends
abbrev pub needs_line : ℕ → List ℕ → List ℕ
needs_line n [] = []
needs_line n (m ∷ ms) = decimal n ++ codes " AFTER" ++ after_blanks (m ∷ ms) ++ codes "\n"

-- the lines of the instructions of these numbers
abbrev pub needs_lines : List Instr → List ℕ → List ℕ
needs_lines block [] = []
needs_lines block (n ∷ ns) = needs_line n (needs block n) ++ needs_lines block ns

-- an instruction by its number and its text
abbrev pub named : Block → ℕ → List ℕ
named block n = decimal n ++ codes " " ++ text_of block n

-- the line that says why n depends on m
abbrev pub pair_line : Block → (n m : ℕ) → List ℕ
pair_line block n m =
    named block n ++ codes " AFTER " ++ named block m ++ codes ": " ++ hazards_text (hazards (instr_at (instrs_of block) m) (instr_at (instrs_of block) n)) ++ codes "\n"

-- of each pair
abbrev pub pair_lines : Block → List ℕ
pair_lines block = flat_map (λ n. flat_map (pair_line block n) (needs (instrs_of block) n)) (numbers (instrs_of block))

-- the lines of the n-th block, from 1
abbrev pub deps_lines : (texts : Bool) → ℕ → Block → List ℕ
deps_lines texts n block =
    deps_line n block ++ (if texts then pair_lines block else needs_lines (instrs_of block) (numbers (instrs_of block)))

-- the lines of the blocks that are shown
abbrev pub IsDepsOutput : (texts : Bool) (only : Option ℕ) (source : Reading) (text : List ℕ) → Status → Type 0
IsDepsOutput texts only source text status = IsListing (deps_lines texts) only source text status
