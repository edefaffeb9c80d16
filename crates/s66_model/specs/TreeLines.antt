-- Used by contracts: the lines of a tree that is grown from a prefix, and of several such trees.
use Rattle.std.specs.Prelude.{ℕ, suc, ◌-◌, Bool, List, [], ◌∷◌, ◌++◌, length}
use Rattle.s66_isa.specs.{Instr}
use Rattle.s66_model.specs.Trees.{NoMore, Vertex, flat_siblings}
use Rattle.s66_model.specs.NodeTree.{grown_sibling}

-- of the tree at a prefix, split where the test says so, and else with its terminal
abbrev pub lines_at : {M : Type 0} → List Instr → (List ℕ → Bool) → (List ℕ → M) → List ℕ → List (Vertex M)
lines_at block is_split terminal at = flat_siblings (grown_sibling block is_split terminal (suc (length block) - length at) at NoMore)

-- of the trees at these prefixes, one after the other
abbrev pub lines_of : {M : Type 0} → List Instr → (List ℕ → Bool) → (List ℕ → M) → List (List ℕ) → List (Vertex M)
lines_of block is_split terminal [] = []
lines_of block is_split terminal (at ∷ ats) = lines_at block is_split terminal at ++ lines_of block is_split terminal ats
