-- Used by contracts: numbers that name instructions of a block.
use Rattle.std.specs.Prelude.{ℕ, ◌≤◌, List, length}
use Rattle.s66_isa.specs.{Among}
use Rattle.s66_line.specs.{Block, instrs_of}
use Rattle.s66_why.specs.declared.path.Step.{Step}
use Rattle.s66_why.specs.declared.stretch.Stretch.{Stretch}

abbrev pub IsOf : Block → ℕ → Type 0
IsOf block n = (1 ≤ n) × (n ≤ length (instrs_of block))

-- each stretch is of an instruction of the block, and so is its holder
abbrev pub AreStretchesOf : Block → List Stretch → Type 0
AreStretchesOf block xs = (x : Stretch) → Among x xs → IsOf block x.number × IsOf block x.holder.number

abbrev pub StepsAreOf : Block → List Step → Type 0
StepsAreOf block xs = (x : Step) → Among x xs → IsOf block x.number
