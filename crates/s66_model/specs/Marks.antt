-- Used by contracts: the lines of a tree that its marks and its numbers keep.
use Rattle.std.specs.Prelude.{◌≡◌, ◌+◌, ℕ, Bool, true, false, List, [], ◌∷◌, length, take, drop}
use Rattle.s66_isa.specs.{weigh}
use Rattle.s66_model.specs.Leaves.{Whole, Chain, Load, Parcels}
use Rattle.s66_model.specs.Trees.{Vertex, AtTerminal, AtSplit}
use Rattle.s66_model.specs.DominatedLeaves.{Ending, Bounding, Dominated, Factual}
use Rattle.s66_model.specs.FactLeaves.{Next, Turned, AtLine, LoadFrom}
use Rattle.s66_model.specs.declared.lines.Mark.{Mark}
use Rattle.s66_model.specs.declared.lines.Mark.TheVariants as mark

-- how many numbers its line has
abbrev pub number_count : Mark → ℕ
number_count (mark.Split count) = count
number_count mark.Whole = 0
number_count (mark.Chain count) = count
number_count (mark.Load kind) = 0
number_count mark.Parcels = 0
number_count (mark.Dominated count) = count
number_count (mark.Next number) = 0
number_count (mark.Turned first second) = 0
number_count (mark.AtLine line) = 0
number_count (mark.LoadFrom count after) = count

abbrev pub is_dominated : Mark → Bool
is_dominated (mark.Split count) = false
is_dominated mark.Whole = false
is_dominated (mark.Chain count) = false
is_dominated (mark.Load kind) = false
is_dominated mark.Parcels = false
is_dominated (mark.Dominated count) = true
is_dominated (mark.Next number) = false
is_dominated (mark.Turned first second) = false
is_dominated (mark.AtLine line) = false
is_dominated (mark.LoadFrom count after) = false

-- with its numbers, the first of these
abbrev pub marked : Mark → List ℕ → Vertex Ending
marked (mark.Split count) numbers = AtSplit (take count numbers)
marked mark.Whole numbers = AtTerminal (Bounding Whole)
marked (mark.Chain count) numbers = AtTerminal (Bounding (Chain (take count numbers)))
marked (mark.Load kind) numbers = AtTerminal (Bounding (Load kind))
marked mark.Parcels numbers = AtTerminal (Bounding Parcels)
marked (mark.Dominated count) numbers = AtTerminal (Dominated (take count numbers))
marked (mark.Next number) numbers = AtTerminal (Factual (Next number))
marked (mark.Turned first second) numbers = AtTerminal (Factual (Turned first second))
marked (mark.AtLine line) numbers = AtTerminal (Factual (AtLine line))
marked (mark.LoadFrom count after) numbers = AtTerminal (Factual (LoadFrom after (take count numbers)))

-- the numbers of the lines come one after the other
abbrev pub vertices_of : List Mark → List ℕ → List (Vertex Ending)
vertices_of [] numbers = []
vertices_of (mark ∷ marks) numbers = marked mark numbers ∷ vertices_of marks (drop (number_count mark) numbers)

-- where the numbers of each line begin, those of the first at n
abbrev pub begins_from : ℕ → List Mark → List ℕ
begins_from n [] = []
begins_from n (mark ∷ marks) = n ∷ begins_from (n + number_count mark) marks

-- as many numbers as the lines have
abbrev pub HaveTheirNumbers : List Mark → List ℕ → Type 0
HaveTheirNumbers marks numbers = weigh number_count marks ≡ length numbers

-- marks and numbers of lines, and where the numbers of each begin
pub record AreKeptLines (marks : List Mark) (numbers begins : List ℕ) : Type 0 where
  pub counted : HaveTheirNumbers marks numbers
  pub placed : begins ≡ begins_from 0 marks
