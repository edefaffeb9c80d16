-- Used by contracts: the sums of the stretches of each conflict so far, and the line that says them.
use Rattle.std.specs.Prelude.{ℕ, ◌≤◌, List, ◌++◌, codes, decimal}
use Rattle.s66_why.specs.declared.stretch.Conflict.{Conflict}
use Rattle.s66_why.specs.declared.stretch.Conflict.TheVariants.{First, Second, Third}
use Rattle.s66_why.specs.declared.lost.Lost.{Lost}

abbrev pub sum_of : Lost → Conflict → ℕ
sum_of l First = l.first
sum_of l Second = l.second
sum_of l Third = l.third

abbrev pub AreAtMost : ℕ → Lost → Type 0
AreAtMost n l = (l.first ≤ n) × (l.second ≤ n) × (l.third ≤ n)

-- the line that says them
abbrev pub sums_line : Lost → List ℕ
sums_line l = codes "LOST FIRST " ++ decimal l.first ++ codes " SECOND " ++ decimal l.second ++ codes " THIRD " ++ decimal l.third ++ codes "\n"
