-- Used by contracts: where the tree of each line of a tree ends, the places of nodes among the lines, and the line at a place.
use Rattle.std.specs.Prelude.{◌≡◌, ◌-◌, ◌<◌, ◌≤◌, ℕ, zero, suc, List, [], ◌∷◌, ◌++◌, length, drop, get_or, slice_get, Option, None, Some}
use Rattle.s66_isa.specs.{BLOCK_LIMIT}
use Rattle.s66_model.specs.{Tree, Siblings, Vertex, AtTerminal, AtSplit, Ending, node_named, forest, later_siblings}
use Rattle.s66_cert.specs.Documents.{tree_placed}
use Rattle.s66_cert.specs.DocumentParts.{tree_of_lines}

-- WHERE TREES END

-- the trees beside each other that the lines from a place on are
abbrev pub trees_from : List (Vertex Ending) → ℕ → Siblings Ending
trees_from vertices place = forest (drop place vertices)

-- the tree of the line at a place ends there: at its end the trees go on that come after it
pub record IsEnd (vertices : List (Vertex Ending)) (place end : ℕ) : Type 0 where
  pub behind : place < end
  pub within : end ≤ length vertices
  pub others : trees_from vertices end ≡ later_siblings (0 ∷ []) (trees_from vertices place)

-- the ends of the trees of all lines from the first on
pub record AreTreeEnds (first : ℕ) (ends : List ℕ) (vertices : List (Vertex Ending)) : Type 0 where
  pub count : length ends ≡ length vertices
  pub each : (place : ℕ) → first ≤ place → place < length vertices → IsEnd vertices place (get_or ends place 0)

-- the end of the last of this many trees, of which the first begins at a place; after the last line there are none
abbrev pub end_behind : List ℕ → ℕ → ℕ → ℕ
end_behind ends zero place = place
end_behind ends (suc n) place = end_behind ends n (get_or ends place place)

-- how many trees follow a line as its children
abbrev pub sibling_count : Vertex Ending → ℕ
sibling_count (AtTerminal ending) = 0
sibling_count (AtSplit numbers) = length numbers

-- WHERE NODES STAND

-- the tree of the line at a place
abbrev pub tree_at : List (Vertex Ending) → ℕ → Tree Ending
tree_at vertices place = tree_of_lines (drop place vertices)

-- the first child of this number of the line at a place is there; none only if it has none
abbrev pub IsChildAt : List (Vertex Ending) → ℕ → ℕ → Option ℕ → Type 0
IsChildAt vertices place number None = (path : List ℕ) → node_named [] (tree_at vertices place) (number ∷ path) ≡ None
IsChildAt vertices place number (Some sibling) =
    (sibling < length vertices) × ((path : List ℕ) → node_named [] (tree_at vertices place) (number ∷ path) ≡ node_named [] (tree_at vertices sibling) path)

-- WHICH LINE STANDS AT A PLACE

-- of the tree of the line here, over this prefix
abbrev pub placed_at : List (Vertex Ending) → ℕ → ℕ → List ℕ → Option (List ℕ × Vertex Ending)
placed_at vertices here place prefix = slice_get (tree_placed prefix (tree_at vertices here)) (place - here)

-- it is in the tree of the child of this number, which begins there; none only if it isn't below the line here
abbrev pub IsBelow : List (Vertex Ending) → ℕ → ℕ → Option (ℕ × ℕ) → Type 0
IsBelow vertices here place None = (prefix : List ℕ) → placed_at vertices here place prefix ≡ None
IsBelow vertices here place (Some (number, child)) =
    (here < child) × (child ≤ place) × (child < length vertices)
    × ((prefix : List ℕ) → placed_at vertices here place prefix ≡ placed_at vertices child place (prefix ++ number ∷ []))

-- what stands at a place of a tree, with its prefix; none only if there is no such line, or its prefix is longer than any block
abbrev pub IsLineAt : Tree Ending → ℕ → Option (Vertex Ending) → List ℕ → Type 0
IsLineAt tree place None path = (line : List ℕ × Vertex Ending) → slice_get (tree_placed [] tree) place ≡ Some line → BLOCK_LIMIT < length line.0
IsLineAt tree place (Some vertex) path = slice_get (tree_placed [] tree) place ≡ Some (path, vertex)
