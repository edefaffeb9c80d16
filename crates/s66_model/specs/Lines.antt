-- To be believed: the lines of a tree as code holds them, and whether one of them is a dominated leaf.
use Rattle.std.specs.Prelude.{◌≡◌, ◌≤◌, Bool, true, false, List, [], ◌∷◌, length, Option, None, Some}
use Rattle.s66_isa.specs.{BLOCK_LIMIT}
use Rattle.s66_model.specs.Leaves.{Whole, Chain, Load, Parcels}
use Rattle.s66_model.specs.Trees.{Vertex, AtTerminal, AtSplit}
use Rattle.s66_model.specs.DominatedLeaves.{Ending, Bounding, Dominated, Factual}
use Rattle.s66_model.specs.FactLeaves.{FactLeaf, Next, Turned, AtLine, LoadFrom}
use Rattle.s66_model.specs.declared.lines.FactLeaf.{FactLeaf as LineFactLeaf}
use Rattle.s66_model.specs.declared.lines.FactLeaf.TheVariants as leaf
use Rattle.s66_model.specs.declared.lines.TreeLine.{TreeLine}
use Rattle.s66_model.specs.declared.lines.TreeLine.TheVariants as line

abbrev pub fact_leaf_of : LineFactLeaf → FactLeaf
fact_leaf_of (leaf.Next number) = Next number
fact_leaf_of (leaf.Turned first second) = Turned first second
fact_leaf_of (leaf.AtLine line) = AtLine line
fact_leaf_of (leaf.LoadFrom after numbers) = LoadFrom after numbers.now

abbrev pub vertex_of : TreeLine → Vertex Ending
vertex_of (line.Split numbers) = AtSplit numbers.now
vertex_of line.Whole = AtTerminal (Bounding Whole)
vertex_of (line.Chain numbers) = AtTerminal (Bounding (Chain numbers.now))
vertex_of (line.Load kind) = AtTerminal (Bounding (Load kind))
vertex_of line.Parcels = AtTerminal (Bounding Parcels)
vertex_of (line.Dominated numbers) = AtTerminal (Dominated numbers.now)
vertex_of (line.Factual leaf) = AtTerminal (Factual (fact_leaf_of leaf))

-- no more numbers than a block has instructions
abbrev pub IsShort : Vertex Ending → Type 0
IsShort (AtSplit numbers) = length numbers ≤ BLOCK_LIMIT
IsShort (AtTerminal (Bounding Whole)) = Unit {0}
IsShort (AtTerminal (Bounding (Chain numbers))) = length numbers ≤ BLOCK_LIMIT
IsShort (AtTerminal (Bounding (Load kind))) = Unit {0}
IsShort (AtTerminal (Bounding Parcels)) = Unit {0}
IsShort (AtTerminal (Dominated name)) = length name ≤ BLOCK_LIMIT
IsShort (AtTerminal (Factual (Next number))) = Unit {0}
IsShort (AtTerminal (Factual (Turned first second))) = Unit {0}
IsShort (AtTerminal (Factual (AtLine line))) = Unit {0}
IsShort (AtTerminal (Factual (LoadFrom after numbers))) = length numbers ≤ BLOCK_LIMIT

-- the next of these lines is returned, and those after it are left; none only if there is none
abbrev pub IsNextLine : List (Vertex Ending) → Option TreeLine → List (Vertex Ending) → Type 0
IsNextLine old None new = (old ≡ []) × (new ≡ [])
IsNextLine old (Some line) new = old ≡ vertex_of line ∷ new

-- whether one of these lines is a dominated leaf
abbrev pub has_dominated_line : List (Vertex Ending) → Bool
has_dominated_line [] = false
has_dominated_line (AtTerminal (Bounding leaf) ∷ vertices) = has_dominated_line vertices
has_dominated_line (AtTerminal (Dominated name) ∷ vertices) = true
has_dominated_line (AtTerminal (Factual leaf) ∷ vertices) = has_dominated_line vertices
has_dominated_line (AtSplit numbers ∷ vertices) = has_dominated_line vertices
