-- Used by contracts within the crate alone: the nodes of a piece in a ledger, some of them closed as dominated by nodes that come before them.
use Rattle.std.specs.Prelude.{ℕ, zero, suc, ◌+◌, ◌-◌, ◌^◌, ◌≡◌, ◌≢◌, ◌<◌, ◌⊎◌, if◌then◌else◌, nat_le, min, List, [], ◌∷◌, ◌++◌, length, get_or, take, drop}
use Rattle.s66_model.specs.{Tree, Vertex, flat, Terminal, IsPiece, TreeMatches, TreeOpens, root_state, new_nodes, AreNamed}
use Rattle.s66_model.specs.LedgerRuns as model
use Rattle.s66_node.specs.{Node, State, Named, named_at, node_line, PieceOf, tree_of}
use Rattle.s66_node.specs.declared.node.State.TheVariants as state
use Rattle.s66_ledger.specs.Nodes.{stored_at, prefixes, nodes_of, made_lines, put_state, HaveFloors}

-- A NODE

-- in a piece a node names its parent by the place, and so the root by 0; the others have the numbers from first on
abbrev pub placed_parent : (root first parent : ℕ) → ℕ
placed_parent root first zero = root
placed_parent root first (suc place) = min (first + place) (2 ^ 32 - 1)

-- a leaf whose value is below the best time is open, and so is what is dominated if it isn't known by what
abbrev pub settled_state : (best value : ℕ) → State → State
settled_state best value state.Open = state.Open
settled_state best value state.Out = state.Open
settled_state best value state.Closed = if nat_le best value then state.Closed else state.Open
settled_state best value state.Split = state.Split
settled_state best value state.Dominated = state.Open

-- what is made of a node whose name isn't found
abbrev pub opened_state : State → State
opened_state state.Open = state.Open
opened_state state.Out = state.Out
opened_state state.Closed = state.Closed
opened_state state.Split = state.Split
opened_state state.Dominated = state.Open

-- the node of this number has this prefix, and isn't dominated
pub record IsNamed (nodes : List Node) (n : ℕ) (name : List ℕ) : Type 0 where
  pub within : n < length nodes
  pub over : get_or (prefixes nodes) n [] ≡ name
  pub standing : (stored_at nodes n).state ≢ state.Dominated

abbrev pub placed : (root first : ℕ) → Node → Node
placed root first x = record x { parent = placed_parent root first x.parent }

-- in this state y is the node x of a piece, for this best time: a dominated one is closed by a node that is made, or is open
abbrev pub GraftsIn : State → (best root first : ℕ) → List Named → List Node → (x y : Node) → Type 0
GraftsIn state.Open best root first names made x y = y ≡ record (placed root first x) { state = state.Open }
GraftsIn state.Out best root first names made x y = y ≡ record (placed root first x) { state = state.Open }
GraftsIn state.Closed best root first names made x y = y ≡ record (placed root first x) { state = settled_state best x.value state.Closed }
GraftsIn state.Split best root first names made x y = y ≡ record (placed root first x) { state = state.Split }
GraftsIn state.Dominated best root first names made x y =
    (y ≡ record (placed root first x) { value = (named_at names x.value).floor; made = state.Open; state = state.Open })
    ⊎ ((n : ℕ) × IsNamed made n (named_at names x.value).name × (y ≡ record (placed root first x) { value = n; state = state.Dominated }))

abbrev pub Grafts : (best root first : ℕ) → List Named → List Node → (x y : Node) → Type 0
Grafts best root first names made x y = GraftsIn x.state best root first names made x y

-- ITS NODES below the root

-- each after those that are made
abbrev pub AreGrafted : (best root first : ℕ) → List Named → List Node → (xs ys : List Node) → Type 0
AreGrafted best root first names made [] [] = Unit {0}
AreGrafted best root first names made (x ∷ xs) (y ∷ ys) = Grafts best root first names made x y × AreGrafted best root first names (made ++ y ∷ []) xs ys
AreGrafted best root first names made [] (y ∷ ys) = ⊥
AreGrafted best root first names made (x ∷ xs) [] = ⊥

-- they come after all that were made
pub record IsGrafting (best root : ℕ) (names : List Named) (made below all : List Node) : Type 0 where
  pub more : List Node
  pub behind : all ≡ made ++ more
  pub grafted : AreGrafted best root (length made) names made below more

-- and then the root is split
pub record IsSplitUnder (best root : ℕ) (names : List Named) (made below new : List Node) : Type 0 where
  pub all : List Node
  pub grafting : IsGrafting best root names made below all
  pub split : new ≡ put_state all root state.Split

-- each of these nodes that is dominated has a name
abbrev pub HaveNames : ℕ → List Node → Type 0
HaveNames count nodes = (i : ℕ) → i < length nodes → (stored_at nodes i).state ≡ state.Dominated → (stored_at nodes i).value < count

-- THE PIECE

-- how its root's line is taken
abbrev pub root_line : PieceOf → Vertex Terminal
root_line p = node_line p.problem [] p.prefix (opened_state (stored_at p.nodes 0).state)

-- it is taken so
pub record IsTakenAs (p : PieceOf) (part : Tree Terminal) : Type 0 where
  pub opens : TreeOpens (tree_of p) part
  pub match : TreeMatches part
  pub count : length (flat part) ≡ length p.nodes
  pub root : take 1 (flat part) ≡ root_line p ∷ []

-- in the place of a node
pub record IsAttachedAs (p : PieceOf) (best root : ℕ) (old new : List Node) : Type 0 where
  pub part : Tree Terminal
  pub taken : IsTakenAs p part
  pub count : length new + 1 ≡ length old + length p.nodes
  pub floors : HaveFloors p.problem new
  pub piece : IsPiece p.rule p.problem p.prefix part
  pub lines : made_lines p.problem new ≡ made_lines p.problem old ++ drop 1 (flat part)
  pub nodes : nodes_of p.problem new ≡ model.with_state (nodes_of p.problem old) root (root_state p.problem best p.prefix part) ++ new_nodes p.problem best p.prefix part
  pub named : AreNamed p.rule p.problem (nodes_of p.problem new) p.prefix part
