-- Used by contracts within the crate alone: the octal codes from which an operand chooses, by the syntax of its operation.
use Rattle.std.specs.Prelude.{ℕ, List, [], ◌∷◌, ◌++◌, Option, None, Some}
use Rattle.s66_isa.specs.{Among, rising, IsCode}
use Rattle.s66_line.specs.Operand.{set_code}
use Rattle.s66_line.specs.declared.operand.operation.Syntax.{Syntax}
use Rattle.s66_line.specs.declared.operand.operation.Syntax.TheVariants.{Boolean, Shift, Normalise, Arithmetic, Mask, Population, Set}

abbrev pub at_most_one : Option ℕ → List ℕ
at_most_one None = []
at_most_one (Some code) = code ∷ []

abbrev pub choices : Syntax → List ℕ
choices Boolean = rising 8 0o10
choices (Shift by_constant by_register) = by_constant ∷ by_register ∷ []
choices (Normalise code) = code ∷ []
choices (Arithmetic sum difference product quotient) = sum ∷ difference ∷ at_most_one product ++ at_most_one quotient
choices Mask = 0o43 ∷ []
choices Population = 0o47 ∷ []
choices (Set bank) = rising 8 (set_code bank)

-- each of them is a code of the table
abbrev pub IsOfTheTable : Syntax → Type 0
IsOfTheTable syntax = (code : ℕ) → Among code (choices syntax) → IsCode code
