-- Used by contracts within the crate alone: what holds while an expansion makes its tree, and of the tree when it is made.
use Rattle.std.specs.Prelude.{ℕ, ◌+◌, ◌≡◌, ◌<◌, ◌≤◌, ◌⊎◌, ◌++◌, true, List, [], ◌∷◌, length, map, reverse, get_or, Option, None, Some}
use Rattle.s66_isa.specs.{Instr, Among, numbers_in}
use Rattle.s66_model.specs.{Rule, WrittenEarlier, Problem, total_of, IsBeginning, IsComplete, IsIncomplete, IsLegal, is_ready, ready, floor, floor_value, Tree, Alone, Vertex, AtTerminal, flat, splits}
use Rattle.s66_model.specs.{split_at, tree_values, DominatesByRule, Terminal, Carries, Frontier, Passed, whole_at}
use Rattle.s66_node.specs.Walked.{front}
use Rattle.s66_node.specs.Growing.{TreeGrows, Grows, tree_prefixes}
use Rattle.s66_node.specs.Nodes.{Named, named, named_at, prefixes_over, node_lines, AreNodes}
use Rattle.s66_node.specs.declared.name.Dominance.{Dominance}
use Rattle.s66_node.specs.declared.node.Node.{Node}
use Rattle.s66_node.specs.declared.node.State.{State}
use Rattle.s66_node.specs.declared.node.State.TheVariants as state
use Rattle.s66_node.specs.declared.whole_order.WholeOrder.{WholeOrder}
use Rattle.s66_node.specs.declared.grow.Grown.{Grown}
use Rattle.s66_node.specs.declared.grow.OpenSplit.{OpenSplit}
use Rattle.s66_node.specs.declared.grow.Unsplit.{Unsplit}
use Rattle.s66_node.specs.declared.grow.Unsplit.TheVariants as unsplit

-- the best times while a tree is made: the high one is the first, the low one the last
pub record Span : Type 0 where
  pub high : ℕ
  pub low : ℕ

abbrev pub span : ℕ → ℕ → Span
span high low = record { high = high; low = low }

-- the prefix may be split: it is incomplete, and its floor is below the best time
abbrev pub IsDue : Problem → ℕ → List ℕ → Type 0
IsDue b best at = IsIncomplete b.block at × (floor_value b at < best)

-- a prefix may be left so: a leaf is of a whole order or at least the low best time, what stays open or is dominated may be split
-- by the high one, and a name dominates as the rule asks
abbrev pub IsLeft : Rule → Problem → Span → List ℕ → Terminal → Type 0
IsLeft rule b best at (Carries leaf) = (leaf ≡ floor b at) × (IsComplete b.block at ⊎ (best.low ≤ floor_value b at))
IsLeft rule b best at Frontier = IsDue b best.high at
IsLeft rule b best at (Passed name) = IsDue b best.high at × DominatesByRule rule b name at

-- WHAT IS FOUND of a prefix that isn't split

abbrev pub terminal_by : Problem → List ℕ → Unsplit → Terminal
terminal_by b at (unsplit.Leaf v) = Carries (floor b at)
terminal_by b at (unsplit.Open v) = Frontier
terminal_by b at (unsplit.Dominated v name) = Passed name.value.numbers.items

abbrev pub state_by : Unsplit → State
state_by (unsplit.Leaf v) = state.Closed
state_by (unsplit.Open v) = state.Open
state_by (unsplit.Dominated v name) = state.Dominated

abbrev pub value_by : Unsplit → ℕ
value_by (unsplit.Leaf v) = v
value_by (unsplit.Open v) = v
value_by (unsplit.Dominated v name) = v

-- what its node has besides if it is dominated
abbrev pub named_by : Unsplit → Option Named
named_by (unsplit.Leaf v) = None
named_by (unsplit.Open v) = None
named_by (unsplit.Dominated v name) = Some (record { floor = v; name = name.value.numbers.items })

abbrev pub IsOpen : Unsplit → Type 0
IsOpen u = state_by u ≡ state.Open

-- by the rule of earlier nodes, the name is one of these
abbrev pub IsKnown : Rule → List (List ℕ) → Terminal → Type 0
IsKnown rule known terminal = rule ≡ WrittenEarlier → (name : List ℕ) → terminal ≡ Passed name → Among name known

-- it is true: the value is the floor's, the prefix may be left so, and its name is known
pub record IsFound (rule : Rule) (b : Problem) (best : Span) (at : List ℕ) (known : List (List ℕ)) (u : Unsplit) : Type 0 where
  pub value : value_by u ≡ floor_value b at
  pub left : IsLeft rule b best at (terminal_by b at u)
  pub knows : IsKnown rule known (terminal_by b at u)

-- a value of its node: the floor's, or the place of what it has besides
abbrev pub HasValue : List Named → ℕ → ℕ → Option Named → Type 0
HasValue names value floor None = value ≡ floor
HasValue names value floor (Some d) = (value < length names) × (named_at names value ≡ d)

pub record IsValued (old new : List Dominance) (u : Unsplit) (value : ℕ) : Type 0 where
  pub more : List Named
  pub names : map named new ≡ map named old ++ more
  pub valued : HasValue (map named new) value (value_by u) (named_by u)

-- a node is put behind others, with what was found of it
pub record IsPushed (nodes : List Node) (old : List Dominance) (parent number depth : ℕ) (u : Unsplit) (more : List Node) (new : List Dominance) : Type 0 where
  pub value : ℕ
  pub valued : IsValued old new u value
  pub pushed : more ≡ nodes ++ record { parent = parent; value = value; number = number; depth = depth; made = state_by u; state = state_by u } ∷ []

-- by the rule of earlier nodes, these names are those of prefixes that are split
abbrev pub AreOfSplits : Rule → List (List ℕ) → List (List ℕ) → Type 0
AreOfSplits rule cuts names = rule ≡ WrittenEarlier → (name : List ℕ) → Among name names → Among name cuts

-- and so are the names of these lines
abbrev pub NameSplits : Rule → List (List ℕ) → List (Vertex Terminal) → Type 0
NameSplits rule cuts lines = rule ≡ WrittenEarlier → (name : List ℕ) → Among (AtTerminal (Passed name)) lines → Among name cuts

-- what these lines leave open was not allowed to be split: this many splits are then as many as are allowed
abbrev pub IsSpent : ℕ → ℕ → List (Vertex Terminal) → Type 0
IsSpent allowance count lines = Among (AtTerminal Frontier) lines → count ≡ allowance

-- the first of the least of these legal orders; none if there are none
abbrev pub IsLeast : Problem → List (List ℕ) → Option WholeOrder → Type 0
IsLeast b orders None = orders ≡ []
IsLeast b orders (Some least) =
    IsLegal b.block least.numbers.items × (least.total ≡ total_of b least.numbers.items)
    × (before : List (List ℕ)) × (after : List (List ℕ)) × (orders ≡ before ++ least.numbers.items ∷ after)
    × ((other : List ℕ) → Among other before → least.total < total_of b other)
    × ((other : List ℕ) → Among other after → least.total ≤ total_of b other)

abbrev pub names_of : Grown → List Named
names_of grown = map named grown.dominances.items

-- the prefixes of its nodes, and the lines of a tree over the root that they are
abbrev pub grown_prefixes : List ℕ → Grown → List (List ℕ)
grown_prefixes root grown = prefixes_over root grown.nodes.items

abbrev pub grown_lines : Problem → List ℕ → Grown → List (Vertex Terminal)
grown_lines b root grown = node_lines b (names_of grown) (grown_prefixes root grown) grown.nodes.items

-- a tree was made over the root: by its nodes, with its splits and the first of the least of its whole orders
pub record IsGrown (rule : Rule) (b : Problem) (best : Span) (allowance : ℕ) (root : List ℕ) (grown : Grown) (tree : Tree Terminal) : Type 0 where
  pub grows : TreeGrows b.block (IsDue b best.high) (IsLeft rule b best) root tree
  pub nodes : AreNodes b (names_of grown) root grown.nodes.items
  pub prefixes : tree_prefixes root tree ≡ grown_prefixes root grown
  pub lines : flat tree ≡ grown_lines b root grown
  pub splits : splits tree ≡ grown.splits
  pub least : IsLeast b (tree_values whole_at root tree) grown.least
  pub within : grown.splits ≤ allowance
  pub spent : IsSpent allowance grown.splits (flat tree)
  -- the root isn't dominated, and names are those of splits
  pub passed : (name : List ℕ) → ¬ (tree ≡ Alone (Passed name))
  pub names : NameSplits rule (split_at root tree) (flat tree)

-- WHILE IT IS MADE

pub record IsEmpty (grown : Grown) : Type 0 where
  pub nodes : grown.nodes.items ≡ []
  pub dominances : grown.dominances.items ≡ []
  pub splits : grown.splits ≡ 0
  pub least : grown.least ≡ None

-- a prefix is put behind the others, with what was found of it since it isn't split
pub record IsUnsplitPut (b : Problem) (at : List ℕ) (old : Grown) (parent number : ℕ) (u : Unsplit) (new : Grown) : Type 0 where
  pub short : length at ≤ 255
  pub node : IsPushed old.nodes.items old.dominances.items parent number (length at) u new.nodes.items new.dominances.items
  pub splits : new.splits ≡ old.splits
  pub least : (rule : Rule) (best : Span) (known found : List (List ℕ)) → IsFound rule b best at known u → IsLeast b found old.least → IsLeast b (found ++ whole_at at (terminal_by b at u)) new.least

-- a prefix that is split is put behind the others, and its children are still to come
pub record IsSplitPut (b : Problem) (at : List ℕ) (old : Grown) (parent number : ℕ) (new : Grown) (frame : OpenSplit) : Type 0 where
  pub short : length at ≤ 255
  pub node : new.nodes.items ≡ old.nodes.items ++ record { parent = parent; value = 0; number = number; depth = length at; made = state.Split; state = state.Split } ∷ []
  pub dominances : new.dominances.items ≡ old.dominances.items
  pub splits : new.splits ≡ old.splits + 1
  pub least : new.least ≡ old.least
  pub place : frame.node ≡ length old.nodes.items
  pub left : numbers_in frame.left ≡ ready b.block at

-- of frames with the last on top, the numbers still to come, those of the top first
abbrev pub lefts : List OpenSplit → List (List ℕ)
lefts frames = map (λ (f : OpenSplit). numbers_in f.left) (reverse frames)

-- a walk at a beginning may go on with each number that is still to come, and so may each prefix above it
abbrev pub AreOpen : List Instr → List ℕ → List (List ℕ) → Type 0
AreOpen block at [] = Unit {0}
AreOpen block at (ns ∷ above) =
    IsBeginning block at × ((n : ℕ) → Among n ns → is_ready block at n ≡ true) × AreOpen block (front at) above

-- the frames' nodes were made, the top one at this prefix, and each below it at the one before
abbrev pub FramesStand : List (List ℕ) → List ℕ → List OpenSplit → Type 0
FramesStand made at [] = Unit {0}
FramesStand made at (f ∷ frames) = (f.node < length made) × (get_or made f.node [] ≡ at) × FramesStand made (front at) frames

-- while a tree over the root is made: what Grows says of its splits, of how its prefixes are left, and of its whole orders
abbrev pub GrowsFor : Rule → Problem → Span → List ℕ → List ℕ → List (List ℕ) → List (Vertex Terminal) → List (List ℕ) → List (List ℕ) → List (List ℕ) → Type 0
GrowsFor rule b best root at frames lines prefixes found cuts =
    Grows b.block (IsDue b best.high) (IsLeft rule b best) whole_at root at frames (record { vertices = lines; prefixes = prefixes; found = found; cuts = cuts })

-- a tree over the root is being made: the walk is at a prefix with these frames, the last on top, one for each prefix from the
-- root down to it; these names may be given
pub record IsBeingMade (rule : Rule) (b : Problem) (best : Span) (allowance : ℕ) (root at : List ℕ) (frames : List OpenSplit) (lines : List (Vertex Terminal)) (prefixes : List (List ℕ)) (count : ℕ) (least : Option WholeOrder) (names : List (List ℕ)) : Type 0 where
  pub standing : AreOpen b.block at (lefts frames)
  pub made : FramesStand prefixes at (reverse frames)
  pub depth : length root + length frames ≤ length at + 1
  pub within : count ≤ allowance
  pub some : 1 ≤ count
  pub spent : IsSpent allowance count lines
  pub grows : (found cuts : List (List ℕ)) × GrowsFor rule b best root at (lefts frames) lines prefixes found cuts × (length cuts ≡ count) × IsLeast b found least × AreOfSplits rule cuts names × NameSplits rule cuts lines
