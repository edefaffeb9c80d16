-- Used by contracts: what a walk over the lines of a tree reaches after a line, each prefix split into all its ready numbers.
use Rattle.std.specs.Prelude.{◌≡◌, ℕ, List, [], ◌++◌}
use Rattle.s66_isa.specs.{Instr}
use Rattle.s66_model.specs.{ready, children, later, Vertex, AtTerminal, AtSplit, Ending}

-- what is to come after a line at this prefix
abbrev pub coming_after : List Instr → List ℕ → Vertex Ending → List (List ℕ)
coming_after block prefix (AtTerminal ending) = later block [] prefix
coming_after block prefix (AtSplit numbers) = children prefix numbers ++ later block [] prefix

-- if it is a split, it has the ready numbers
abbrev pub HasReady : List Instr → List ℕ → Vertex Ending → Type 0
HasReady block prefix (AtTerminal ending) = Unit {0}
HasReady block prefix (AtSplit numbers) = numbers ≡ ready block prefix
