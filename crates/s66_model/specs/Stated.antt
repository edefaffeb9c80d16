-- Used by contracts of pieces and answers: trees that state of each unsplit prefix only its floor's value or the name that it
-- has, as code stores them, and the trees that they stand for.
use Rattle.std.specs.Prelude.{ℕ, ◌≡◌, List, [], ◌∷◌, ◌++◌}
use Rattle.s66_model.specs.declared.rule.Rule.{Rule}
use Rattle.s66_model.specs.Timing.{Problem}
use Rattle.s66_model.specs.LegalOrder.{IsIncomplete}
use Rattle.s66_model.specs.Leaves.{floor, floor_value}
use Rattle.s66_model.specs.Trees.{Tree, Alone, Parted, Siblings, NoMore, Unsplit, Split, TreeHolds}
use Rattle.s66_model.specs.DominatedLeaves.{DominatesByRule}
use Rattle.s66_model.specs.Piece.{Terminal, Carries, Frontier, Passed, IsNamedIn}

-- A TREE SEEN WITH OTHER TERMINALS: at each prefix that isn't split, what f makes of it and of its terminal

abbrev pub siblings_seen : {M N : Type 0} → (List ℕ → M → N) → List ℕ → List ℕ → Siblings M → Siblings N
siblings_seen f prefix [] siblings = NoMore
siblings_seen f prefix (n ∷ ns) NoMore = NoMore
siblings_seen f prefix (n ∷ ns) (Unsplit terminal siblings) = Unsplit (f (prefix ++ n ∷ []) terminal) (siblings_seen f prefix ns siblings)
siblings_seen f prefix (n ∷ ns) (Split numbers sub siblings) =
    Split numbers (siblings_seen f (prefix ++ n ∷ []) numbers sub) (siblings_seen f prefix ns siblings)

abbrev pub tree_seen : {M N : Type 0} → (List ℕ → M → N) → List ℕ → Tree M → Tree N
tree_seen f prefix (Alone terminal) = Alone (f prefix terminal)
tree_seen f prefix (Parted numbers siblings) = Parted numbers (siblings_seen f prefix numbers siblings)

-- VALUES IN PLACE OF LEAVES

-- the value of a prefix that carries its floor, of one in the frontier, and of one that is dominated, with its name
pub data Stated : Type 0 where
  StatedLeaf : ℕ → Stated
  StatedFrontier : ℕ → Stated
  StatedPassed : ℕ → (name : List ℕ) → Stated

-- it is the floor's, no complete prefix is in the frontier, and in this tree over the prefix the name is as the rule asks
abbrev pub StatedHolds : Rule → Problem → List ℕ → Tree Terminal → List ℕ → Stated → Type 0
StatedHolds rule b prefix tree at (StatedLeaf value) = value ≡ floor_value b at
StatedHolds rule b prefix tree at (StatedFrontier value) = (value ≡ floor_value b at) × IsIncomplete b.block at
StatedHolds rule b prefix tree at (StatedPassed value name) = (value ≡ floor_value b at) × DominatesByRule rule b name at × IsNamedIn rule prefix tree at name

-- what counts for the bound: a dominated prefix is passed over
abbrev pub stated_values : Stated → List ℕ
stated_values (StatedLeaf value) = value ∷ []
stated_values (StatedFrontier value) = value ∷ []
stated_values (StatedPassed value name) = []

abbrev pub terminal_floors : Problem → List ℕ → Terminal → List ℕ
terminal_floors b at (Carries leaf) = floor_value b at ∷ []
terminal_floors b at Frontier = floor_value b at ∷ []
terminal_floors b at (Passed name) = []

abbrev pub terminal_of : Problem → List ℕ → Stated → Terminal
terminal_of b at (StatedLeaf value) = Carries (floor b at)
terminal_of b at (StatedFrontier value) = Frontier
terminal_of b at (StatedPassed value name) = Passed name

-- the piece's tree whose values are stated
abbrev pub tree_stated : Problem → List ℕ → Tree Stated → Tree Terminal
tree_stated b prefix stated = tree_seen (terminal_of b) prefix stated

-- a tree of true values, and of names as the rule asks
abbrev pub IsStatedTree : Rule → Problem → List ℕ → Tree Stated → Type 0
IsStatedTree rule b prefix stated = TreeHolds b.block (StatedHolds rule b prefix (tree_stated b prefix stated)) prefix stated
