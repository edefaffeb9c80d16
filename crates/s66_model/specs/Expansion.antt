-- To be believed: what an expansion of a prefix is: a tree over it, grown while a best time is in hand, and the best of its whole orders.
use Rattle.std.specs.Prelude.{ℕ, ◌≡◌, ◌≤◌, ◌<◌, ◌⊎◌, List, [], ◌∷◌, Option, Some, None}
use Rattle.s66_isa.specs.{Among}
use Rattle.s66_model.specs.declared.rule.Rule.{Rule}
use Rattle.s66_model.specs.Timing.{Problem, total_of}
use Rattle.s66_model.specs.LegalOrder.{IsComplete, IsIncomplete}
use Rattle.s66_model.specs.Leaves.{Whole, Chain, Load, Parcels, value, floor, floor_value}
use Rattle.s66_model.specs.Trees.{Tree, AtTerminal, TreeHolds, flat, splits, split_at, tree_values}
use Rattle.s66_model.specs.DominatedLeaves.{DominatesByRule}
use Rattle.s66_model.specs.Piece.{Terminal, Carries, Frontier, Passed, IsNamedIn}

-- The best time may fall while the tree is grown, from high to low. If it doesn't, low is high.

-- a leaf is the floor, of a complete prefix or of a value that is at least low. In the frontier is an incomplete prefix whose
-- floor is below high. So is that of a dominated one, which has a name as the rule asks
abbrev pub TerminalHoldsWhile : Rule → Problem → ℕ → ℕ → List ℕ → Tree Terminal → List ℕ → Terminal → Type 0
TerminalHoldsWhile rule b high low prefix tree at (Carries leaf) = (leaf ≡ floor b at) × (IsComplete b.block at ⊎ (low ≤ value b at leaf))
TerminalHoldsWhile rule b high low prefix tree at Frontier = IsIncomplete b.block at × (floor_value b at < high)
TerminalHoldsWhile rule b high low prefix tree at (Passed name) = (DominatesByRule rule b name at × IsNamedIn rule prefix tree at name) × (floor_value b at < high)

-- some prefix of the tree is left open
abbrev pub HasFrontier : Tree Terminal → Type 0
HasFrontier tree = Among (AtTerminal Frontier) (flat tree)

-- made while the best time falls from high to low. A prefix has a leaf only if it is complete or its floor is at least low, and is in
-- the frontier, dominated or split only if it is incomplete and its floor below high
pub record IsExpansion (rule : Rule) (b : Problem) (high low allowance : ℕ) (prefix : List ℕ) (tree : Tree Terminal) : Type 0 where
  -- a tree over the prefix whose splits have exactly the ready children
  pub piece : TreeHolds b.block (TerminalHoldsWhile rule b high low prefix tree) prefix tree
  -- of at most this many splits
  pub within : splits tree ≤ allowance
  -- a prefix whose floor is at least the best time isn't split
  pub below : (at : List ℕ) → Among at (split_at prefix tree) → floor_value b at < high
  -- what is left open was not allowed to be split: as many splits are spent as are allowed
  pub spent : HasFrontier tree → splits tree ≡ allowance

-- WHOLE ORDERS

abbrev pub whole_at : List ℕ → Terminal → List (List ℕ)
whole_at prefix (Carries Whole) = prefix ∷ []
whole_at prefix (Carries (Chain numbers)) = []
whole_at prefix (Carries (Load kind)) = []
whole_at prefix (Carries Parcels) = []
whole_at prefix Frontier = []
whole_at prefix (Passed name) = []

-- the prefixes of a tree that carry a leaf T, in preorder
abbrev pub whole_orders : List ℕ → Tree Terminal → List (List ℕ)
whole_orders prefix tree = tree_values whole_at prefix tree

-- one of the least total among them; none if there are none
abbrev pub IsBestWhole : Problem → List ℕ → Tree Terminal → Option (List ℕ) → Type 0
IsBestWhole b prefix tree None = whole_orders prefix tree ≡ []
IsBestWhole b prefix tree (Some order) =
    Among order (whole_orders prefix tree) × ((other : List ℕ) → Among other (whole_orders prefix tree) → total_of b order ≤ total_of b other)
