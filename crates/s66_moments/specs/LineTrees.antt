-- To be believed: trees whose unsplit prefixes are closed by leaves or by lines, or name a node that dominates them, and what they show.
use Rattle.std.specs.Prelude.{ℕ, ◌≡◌, ◌≤◌, Bool, true, false, List, [], ◌∷◌, Option, Some, None}
use Rattle.s66_model.specs.{Rule, NoneNamed, WrittenEarlier, ClampedStanding, Problem, IsIncomplete, Leaf, Tree, Vertex, AtTerminal, AtSplit, TreeHolds, LeafShows, node_named, is_node}
use Rattle.s66_model.specs.{DominatesByRule}
use Rattle.s66_moments.specs.Facts.{Fact, Begins}
use Rattle.s66_moments.specs.FactLines.{Line, IsTooLate, AreFounded, facts_after}
use Rattle.s66_moments.specs.InUse.{DominatesInUse}

-- what an unsplit prefix has: a leaf that bounds; lines of its own, by which no order through it takes less than low; or the name of
-- a node that dominates it
pub data LineEnding : Type 0 where
  AtLeaf : Leaf → LineEnding
  AtLines : List Line → LineEnding
  DominatedBy : (name : List ℕ) → LineEnding

-- with the prefix known too
abbrev pub IsClosedByLines : Problem → ℕ → List Fact → List ℕ → List Line → Type 0
IsClosedByLines b low known prefix lines =
    AreFounded b low (Begins prefix ∷ known) lines × IsTooLate b low (facts_after (Begins prefix ∷ known) lines)

-- WHICH NODES MAY BE NAMED

-- it is a node, and no dominated leaf
abbrev pub is_closed : Option (Vertex LineEnding) → Bool
is_closed None = false
is_closed (Some (AtSplit numbers)) = true
is_closed (Some (AtTerminal (AtLeaf leaf))) = true
is_closed (Some (AtTerminal (AtLines lines))) = true
is_closed (Some (AtTerminal (DominatedBy name))) = false

-- what may be named if this is found
abbrev pub may_be_named : Rule → Option (Vertex LineEnding) → Bool
may_be_named NoneNamed vertex = false
may_be_named WrittenEarlier vertex = is_node vertex
may_be_named ClampedStanding vertex = is_closed vertex

-- the name dominates an incomplete prefix, as the rule asks; for a standing node it is enough to do so in use, which asks less than clamped
abbrev pub DominatesBelow : Rule → Problem → ℕ → List Fact → List ℕ → List ℕ → Type 0
DominatesBelow NoneNamed b low known name at = DominatesByRule NoneNamed b name at
DominatesBelow WrittenEarlier b low known name at = DominatesByRule WrittenEarlier b name at
DominatesBelow ClampedStanding b low known name at = IsIncomplete b.block at × DominatesInUse b low known name at

-- WHAT A TREE SHOWS over a prefix by lines at its head: no order that begins so takes less than low

abbrev pub LineEndingShows : Rule → Problem → ℕ → List Fact → List ℕ → Tree LineEnding → List ℕ → LineEnding → Type 0
LineEndingShows rule b low known prefix tree at (AtLeaf leaf) = LeafShows b low at leaf
LineEndingShows rule b low known prefix tree at (AtLines lines) = IsClosedByLines b low known at lines
LineEndingShows rule b low known prefix tree at (DominatedBy name) =
    DominatesBelow rule b low known name at × (may_be_named rule (node_named prefix tree name) ≡ true)

-- the lines are founded, and each unsplit prefix shows this very time
abbrev pub AllShow : Rule → Problem → ℕ → List Line → List ℕ → Tree LineEnding → Type 0
AllShow rule b low lines prefix tree =
    AreFounded b low [] lines × TreeHolds b.block (LineEndingShows rule b low (facts_after [] lines) prefix tree) prefix tree

-- a tree that shows a time of low or more shows low; in use, a node may dominate below that time and not below low; the lines at the
-- head are founded, and each unsplit prefix has a leaf of at least that time, lines by which it is too late, or the name of a node that
-- dominates it by the rule
abbrev pub ShowsByLines : Rule → Problem → ℕ → List Line → List ℕ → Tree LineEnding → Type 0
ShowsByLines rule b low lines prefix tree = (time : ℕ) × (low ≤ time) × AllShow rule b time lines prefix tree
