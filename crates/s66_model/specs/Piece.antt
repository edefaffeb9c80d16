-- To be believed: what a piece is, a tree over a prefix with leaves, dominated leaves and a frontier.
use Rattle.std.specs.Prelude.{ℕ, ◌≡◌, ◌<◌, true, List, length}
use Rattle.s66_model.specs.declared.rule.Rule.{Rule}
use Rattle.s66_model.specs.declared.rule.Rule.TheVariants.{NoneNamed, WrittenEarlier, ClampedStanding}
use Rattle.s66_model.specs.Timing.{Problem}
use Rattle.s66_model.specs.LegalOrder.{IsIncomplete}
use Rattle.s66_model.specs.Leaves.{Leaf, floor}
use Rattle.s66_model.specs.Trees.{Tree, TreeHolds}
use Rattle.s66_model.specs.NodeNames.{node_named, is_node}
use Rattle.s66_model.specs.DominatedLeaves.{DominatesByRule}

-- what a prefix that isn't split has: a leaf, a place in the frontier, or the name of a node that dominates it
pub data Terminal : Type 0 where
  Carries : Leaf → Terminal
  Frontier : Terminal
  Passed : (name : List ℕ) → Terminal

-- where a name is looked for: earlier nodes in the piece itself, others in the ledger that takes it, which closes no node as dominated after it was made
abbrev pub IsNamedIn : Rule → List ℕ → Tree Terminal → List ℕ → List ℕ → Type 0
IsNamedIn NoneNamed prefix tree at name = ⊥
IsNamedIn WrittenEarlier prefix tree at name = is_node (node_named prefix tree name) ≡ true
IsNamedIn ClampedStanding prefix tree at name = length prefix < length at

-- in a tree over the prefix
abbrev pub TerminalHolds : Rule → Problem → List ℕ → Tree Terminal → List ℕ → Terminal → Type 0
TerminalHolds rule b prefix tree at (Carries leaf) = leaf ≡ floor b at
TerminalHolds rule b prefix tree at Frontier = IsIncomplete b.block at
TerminalHolds rule b prefix tree at (Passed name) = DominatesByRule rule b name at × IsNamedIn rule prefix tree at name

-- a tree over the prefix whose splits have exactly the ready children, whose leaves are floors, and whose dominated leaves have names
-- as the rule asks; a name is that of an earlier node of the piece; by the rule under which it may be any node of the ledger, the
-- piece's own prefix isn't dominated
abbrev pub IsPiece : Rule → Problem → List ℕ → Tree Terminal → Type 0
IsPiece rule b prefix tree = TreeHolds b.block (TerminalHolds rule b prefix tree) prefix tree
