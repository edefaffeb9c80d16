-- To be believed: trees with dominated leaves: which nodes such leaves may name, by one of three rules, and what a tree shows.
use Rattle.std.specs.Prelude.{ℕ, ◌≡◌, ◌<◌, ◌⊎◌, Bool, true, false, List, [], ◌∷◌, Option, Some, None}
use Rattle.s66_model.specs.declared.rule.Rule.{Rule}
use Rattle.s66_model.specs.declared.rule.Rule.TheVariants.{NoneNamed, WrittenEarlier, ClampedStanding}
use Rattle.s66_model.specs.Timing.{Problem}
use Rattle.s66_model.specs.LegalOrder.{IsIncomplete}
use Rattle.s66_model.specs.Leaves.{Leaf}
use Rattle.s66_model.specs.FactLeaves.{FactLeaf, names_none}
use Rattle.s66_model.specs.Trees.{Siblings, NoMore, Unsplit, Split, Tree, Alone, Parted, Vertex, AtTerminal, AtSplit, TreeHolds, LeafShows}
use Rattle.s66_model.specs.Dominance.{Dominates, DominatesClamped}
use Rattle.s66_model.specs.NodeNames.{node_named, is_node}

-- what a prefix has that isn't split: a leaf that bounds, the name of a node that dominates the prefix, or a leaf by facts
pub data Ending : Type 0 where
  Bounding : Leaf → Ending
  Dominated : (name : List ℕ) → Ending
  Factual : FactLeaf → Ending

-- WHICH NODES MAY BE NAMED

-- smaller at the first place where they differ
abbrev pub IsEarlier : List ℕ → List ℕ → Type 0
IsEarlier [] ms = ⊥
IsEarlier (n ∷ ns) [] = ⊥
IsEarlier (n ∷ ns) (m ∷ ms) = (n < m) ⊎ ((n ≡ m) × IsEarlier ns ms)

-- it is a node, and no leaf that leans on another
abbrev pub is_standing : Option (Vertex Ending) → Bool
is_standing None = false
is_standing (Some (AtSplit numbers)) = true
is_standing (Some (AtTerminal (Bounding leaf))) = true
is_standing (Some (AtTerminal (Dominated name))) = false
is_standing (Some (AtTerminal (Factual leaf))) = names_none leaf

-- what may be named if this is found
abbrev pub may_be_named : Rule → Option (Vertex Ending) → Bool
may_be_named NoneNamed vertex = false
may_be_named WrittenEarlier vertex = is_node vertex
may_be_named ClampedStanding vertex = is_standing vertex

-- the name dominates an incomplete prefix, as the rule asks
abbrev pub DominatesByRule : Rule → Problem → List ℕ → List ℕ → Type 0
DominatesByRule NoneNamed b name at = ⊥
DominatesByRule WrittenEarlier b name at = IsIncomplete b.block at × IsEarlier name at × Dominates b name at
DominatesByRule ClampedStanding b name at = IsIncomplete b.block at × DominatesClamped b name at

-- a dominated leaf with this name may stand there, in a tree over the prefix
abbrev pub MayBeDominated : Rule → Problem → List ℕ → Tree Ending → List ℕ → List ℕ → Type 0
MayBeDominated rule b prefix tree at name = DominatesByRule rule b name at × (may_be_named rule (node_named prefix tree name) ≡ true)

-- WHAT A TREE SHOWS over a prefix: dominated leaves are passed over, and without fact lines a leaf by facts shows nothing

abbrev pub EndingShows : Rule → Problem → ℕ → List ℕ → Tree Ending → List ℕ → Ending → Type 0
EndingShows rule b low prefix tree at (Bounding leaf) = LeafShows b low at leaf
EndingShows rule b low prefix tree at (Dominated name) = MayBeDominated rule b prefix tree at name
EndingShows rule b low prefix tree at (Factual leaf) = ⊥

-- as `Shows`, but that a dominated leaf stands at an incomplete prefix
abbrev pub ShowsBy : Rule → Problem → ℕ → List ℕ → Tree Ending → Type 0
ShowsBy rule b low prefix tree = TreeHolds b.block (EndingShows rule b low prefix tree) prefix tree

-- A TREE WITHOUT DOMINATED LEAVES

abbrev pub siblings_bounding : Siblings Leaf → Siblings Ending
siblings_bounding NoMore = NoMore
siblings_bounding (Unsplit leaf siblings) = Unsplit (Bounding leaf) (siblings_bounding siblings)
siblings_bounding (Split numbers sub siblings) = Split numbers (siblings_bounding sub) (siblings_bounding siblings)

abbrev pub tree_bounding : Tree Leaf → Tree Ending
tree_bounding (Alone leaf) = Alone (Bounding leaf)
tree_bounding (Parted numbers siblings) = Parted numbers (siblings_bounding siblings)
