-- Used by contracts: what they see of a piece.
use Rattle.std.specs.Prelude.{ℕ, ◌≡◌, List, Option, None, Some}
use Rattle.s66_model.specs.{Rule, Problem, Tree, Vertex, flat, splits, read_tree, Terminal, Frontier, IsPiece, IsBestWhole, IsExpansion}
use Rattle.s66_time.specs.TimedOrder.{TimedOrder}
use Rattle.s66_node.specs.declared.node.Node.{Node}
use Rattle.s66_node.specs.Nodes.{Named, prefixes_over, node_lines, AreNodes}
use Rattle.s66_node.specs.Growing.{tree_prefixes}

pub record PieceOf : Type 0 where
  -- of its dominated leaves
  pub rule : Rule
  pub problem : Problem
  pub prefix : List ℕ
  -- its tree's nodes in preorder
  pub nodes : List Node
  -- of the dominated ones, each by its node's value
  pub names : List Named
  pub timed : Option TimedOrder

abbrev pub prefixes_of : PieceOf → List (List ℕ)
prefixes_of p = prefixes_over p.prefix p.nodes

-- its tree's lines in preorder
abbrev pub piece_lines : PieceOf → List (Vertex Terminal)
piece_lines p = node_lines p.problem p.names (prefixes_of p) p.nodes

-- its tree
abbrev pub tree_of : PieceOf → Tree Terminal
tree_of p = read_tree Frontier (piece_lines p)

-- a timed order of the problem that is one of the least whole orders of the tree; none if it has none
abbrev pub IsBestTimed : Problem → List ℕ → Tree Terminal → Option TimedOrder → Type 0
IsBestTimed b prefix tree None = IsBestWhole b prefix tree None
IsBestTimed b prefix tree (Some timed) = (timed.problem ≡ b) × IsBestWhole b prefix tree (Some timed.numbers)

-- its nodes are those of its tree in preorder
pub record AreTreeNodes (p : PieceOf) : Type 0 where
  pub piece : IsPiece p.rule p.problem p.prefix (tree_of p)
  pub lines : flat (tree_of p) ≡ piece_lines p
  pub prefixes : tree_prefixes p.prefix (tree_of p) ≡ prefixes_of p
  pub nodes : AreNodes p.problem p.names p.prefix p.nodes

-- what is true of every piece with this many splits
pub record IsKeptPiece (p : PieceOf) (count : ℕ) : Type 0 where
  pub nodes : AreTreeNodes p
  pub splits : splits (tree_of p) ≡ count
  pub timed : IsBestTimed p.problem p.prefix (tree_of p) p.timed

-- what an expansion of a prefix promises of its piece: the best time falls from high to low meanwhile, and there are at most as many
-- splits as are allowed
pub record IsExpandedPiece (by : Rule) (b : Problem) (high low allowance : ℕ) (at : List ℕ) (p : PieceOf) : Type 0 where
  -- its tree is an expansion of the prefix
  pub expansion : IsExpansion by b high low allowance at (tree_of p)
  -- its timed order is one of the least whole orders of the tree
  pub timed : IsBestTimed b at (tree_of p) p.timed
  -- it says of itself what was expanded, and by which rule
  pub problem : p.problem ≡ b
  pub rule : p.rule ≡ by
  pub prefix : p.prefix ≡ at
