-- To be believed: which node of a tree has a name, the numbers of its prefix.
use Rattle.std.specs.Prelude.{ℕ, Bool, true, false, if◌then◌else◌, ◌==◌, List, [], ◌∷◌, Option, Some, None}
use Rattle.s66_model.specs.Trees.{Siblings, NoMore, Unsplit, Split, Tree, Alone, Parted, Vertex, AtTerminal, AtSplit}

-- a terminal has no nodes below it
abbrev pub terminal_at : {M : Type 0} → M → List ℕ → Option (Vertex M)
terminal_at terminal [] = Some (AtTerminal terminal)
terminal_at terminal (n ∷ path) = None

-- where a path leads from a split with these children: at each split to the first child of the number that comes next
abbrev pub sibling_at : {M : Type 0} → List ℕ → Siblings M → List ℕ → Option (Vertex M)
sibling_at numbers siblings [] = Some (AtSplit numbers)
sibling_at [] siblings (n ∷ path) = None
sibling_at (m ∷ ms) NoMore (n ∷ path) = None
sibling_at (m ∷ ms) (Unsplit terminal siblings) (n ∷ path) = if m == n then terminal_at terminal path else sibling_at ms siblings (n ∷ path)
sibling_at (m ∷ ms) (Split numbers sub siblings) (n ∷ path) = if m == n then sibling_at numbers sub path else sibling_at ms siblings (n ∷ path)

-- the node of this name; each name begins with the prefix that the tree is over
abbrev pub node_named : {M : Type 0} → List ℕ → Tree M → List ℕ → Option (Vertex M)
node_named [] (Alone terminal) name = terminal_at terminal name
node_named [] (Parted numbers siblings) name = sibling_at numbers siblings name
node_named (n ∷ prefix) tree [] = None
node_named (n ∷ prefix) tree (m ∷ name) = if n == m then node_named prefix tree name else None

-- there is one
abbrev pub is_node : {M : Type 0} → Option (Vertex M) → Bool
is_node None = false
is_node (Some vertex) = true
