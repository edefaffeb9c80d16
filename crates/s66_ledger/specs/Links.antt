-- Used by contracts: from a node to the last made of its children, and from each child to the one made before it.
use Rattle.std.specs.Prelude.{ℕ, zero, suc, ◌≡◌, ◌<◌, ◌==◌, if◌then◌else◌, List, get_or, length, nat_lt}
use Rattle.s66_node.specs.{Node}
use Rattle.s66_ledger.specs.Nodes.{stored_at}

-- a parent comes before its children; else the root is taken for it
abbrev pub parent_of : List Node → ℕ → ℕ
parent_of nodes i = if nat_lt (stored_at nodes i).parent i then (stored_at nodes i).parent else 0

-- the greatest number below k of a child of this node; 0 if it has none there
abbrev pub child_below : List Node → ℕ → ℕ → ℕ
child_below nodes parent zero = 0
child_below nodes parent (suc k) = if parent_of nodes k == parent then k else child_below nodes parent k

-- of the first k nodes: the last child of each, and the child of the same parent before each
pub record AreLinks (nodes : List Node) (last before : List ℕ) (k : ℕ) : Type 0 where
  pub last_child : (i : ℕ) → i < length nodes → get_or last i 0 ≡ child_below nodes i k
  pub sibling : (j : ℕ) → j < k → get_or before j 0 ≡ child_below nodes (parent_of nodes j) j
  pub lasts : length last ≡ length nodes
  pub siblings : length before ≡ length nodes

-- a child of this node, whose last number this is
pub record IsChild (nodes : List Node) (above last child : ℕ) : Type 0 where
  pub some : 0 < child
  pub within : child < length nodes
  pub parent : parent_of nodes child ≡ above
  pub number : (stored_at nodes child).number ≡ last

pub record HasChild (nodes : List Node) (above last : ℕ) : Type 0 where
  pub child : ℕ
  pub is : IsChild nodes above last child
