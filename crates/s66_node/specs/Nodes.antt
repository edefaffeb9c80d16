-- Used by contracts: nodes: their states, their prefixes, and the lines of a tree that they are.
use Rattle.std.specs.Prelude.{ℕ, ◌≡◌, ◌<◌, ◌≤◌, Bool, true, false, List, [], ◌∷◌, ◌++◌, length, get_or}
use Rattle.s66_model.specs.{Problem, ready, floor, floor_value, Vertex, AtTerminal, AtSplit, Terminal, Carries, Frontier, Passed}
use Rattle.s66_node.specs.declared.node.Node.{Node}
use Rattle.s66_node.specs.declared.node.State.{State}
use Rattle.s66_node.specs.declared.node.State.TheVariants as state
use Rattle.s66_node.specs.declared.name.Dominance.{Dominance}

-- STATES

abbrev pub is_stored_open : State → Bool
is_stored_open state.Open = true
is_stored_open _ = false

-- open or out
abbrev pub is_stored_live : State → Bool
is_stored_live state.Open = true
is_stored_live state.Out = true
is_stored_live _ = false

-- it keeps its floor's value
abbrev pub has_floor : State → Bool
has_floor state.Split = false
has_floor state.Dominated = false
has_floor _ = true

-- PREFIXES

-- each is its parent's and then its own last number; a parent comes before it
abbrev pub prefixes_from : List (List ℕ) → List Node → List (List ℕ)
prefixes_from made [] = made
prefixes_from made (x ∷ xs) = prefixes_from (made ++ (get_or made x.parent [] ++ x.number ∷ []) ∷ []) xs

-- the first node's is this one
abbrev pub prefixes_over : List ℕ → List Node → List (List ℕ)
prefixes_over prefix [] = []
prefixes_over prefix (x ∷ xs) = prefixes_from (prefix ∷ []) xs

-- LINES

-- what a prefix is in a tree if its node is made in this state, with the name that it has if it is dominated
abbrev pub node_line : Problem → (name at : List ℕ) → State → Vertex Terminal
node_line b name at state.Open = AtTerminal Frontier
node_line b name at state.Out = AtTerminal Frontier
node_line b name at state.Closed = AtTerminal (Carries (floor b at))
node_line b name at state.Split = AtSplit (ready b.block at)
node_line b name at state.Dominated = AtTerminal (Passed name)

-- THE NODES OF A PIECE

-- a floor's value, and the numbers of the node that dominates the prefix
pub record Named : Type 0 where
  pub floor : ℕ
  pub name : List ℕ

abbrev pub named : Dominance → Named
named d = record { floor = d.floor; name = d.name.value.numbers.items }

abbrev pub no_named : Named
no_named = record { floor = 0; name = [] }

abbrev pub named_at : List Named → ℕ → Named
named_at names i = get_or names i no_named

-- of nodes at these prefixes
abbrev pub node_lines : Problem → List Named → List (List ℕ) → List Node → List (Vertex Terminal)
node_lines b names [] xs = []
node_lines b names (at ∷ ats) [] = []
node_lines b names (at ∷ ats) (x ∷ xs) = node_line b (named_at names x.value).name at x.state ∷ node_lines b names ats xs

-- a node of a piece, at its prefix
pub record IsNode (b : Problem) (names : List Named) (at : List ℕ) (x : Node) : Type 0 where
  pub depth : x.depth ≡ length at
  pub short : x.depth ≤ 255
  pub made : x.made ≡ x.state
  pub floor : has_floor x.state ≡ true → x.value ≡ floor_value b at
  pub within : x.state ≡ state.Dominated → x.value < length names
  pub named : x.state ≡ state.Dominated → (named_at names x.value).floor ≡ floor_value b at

-- after nodes with these prefixes
abbrev pub NodesFrom : Problem → List Named → List (List ℕ) → List Node → Type 0
NodesFrom b names made [] = Unit {0}
NodesFrom b names made (x ∷ xs) =
    (x.parent < length made) × IsNode b names (get_or made x.parent [] ++ x.number ∷ []) x
    × NodesFrom b names (made ++ (get_or made x.parent [] ++ x.number ∷ []) ∷ []) xs

-- the first one at this prefix
abbrev pub AreNodes : Problem → List Named → List ℕ → List Node → Type 0
AreNodes b names prefix [] = ⊥
AreNodes b names prefix (x ∷ xs) = IsNode b names prefix x × NodesFrom b names (prefix ∷ []) xs
