-- Used by contracts: the nodes that a ledger stores, each by its parent and its last number, as the definition's nodes with whole
-- prefixes, and as the lines of the pieces that made them.
use Rattle.std.specs.Prelude.{ℕ, ◌≡◌, ◌<◌, min, Bool, true, false, List, [], ◌∷◌, ◌++◌, length, get_or, set, take}
use Rattle.s66_model.specs.{Problem, floor, floor_value, Vertex, Bounding, Dominated, Terminal}
use Rattle.s66_model.specs.LedgerRuns as model
use Rattle.s66_node.specs.{Node, State, is_stored_open, has_floor, prefixes_over, node_line}
use Rattle.s66_node.specs.declared.node.State.TheVariants as state

-- past the last one is a node that is split
abbrev pub no_stored : Node
no_stored = record { parent = 0; value = 0; number = 0; depth = 0; made = state.Split; state = state.Split }

abbrev pub stored_at : List Node → ℕ → Node
stored_at nodes i = get_or nodes i no_stored

abbrev pub put_state : List Node → ℕ → State → List Node
put_state nodes i s = set nodes i (record (stored_at nodes i) { state = s })

-- PREFIXES

-- node 0 is the empty prefix
abbrev pub prefixes : List Node → List (List ℕ)
prefixes nodes = prefixes_over [] nodes

-- the name that a node has if it is dominated
abbrev pub name_at : List Node → ℕ → List ℕ
name_at xs i = get_or (take i (prefixes xs)) (stored_at xs i).value []

-- STATES

abbrev pub is_stored_out : State → Bool
is_stored_out state.Open = false
is_stored_out state.Out = true
is_stored_out state.Closed = false
is_stored_out state.Split = false
is_stored_out state.Dominated = false

abbrev pub stores_open : Node → Bool
stores_open node = is_stored_open node.state

abbrev pub stores_out : Node → Bool
stores_out node = is_stored_out node.state

-- AS THE DEFINITION HAS THEM

-- in this state, with the name that it has if it is dominated
abbrev pub seen_state : Problem → (name at : List ℕ) → State → model.State
seen_state b name at state.Open = model.Open
seen_state b name at state.Out = model.Out
seen_state b name at state.Closed = model.Closed (Bounding (floor b at))
seen_state b name at state.Split = model.Cut
seen_state b name at state.Dominated = model.Closed (Dominated name)

abbrev pub seen_node : Problem → (name at : List ℕ) → Node → model.Node
seen_node b name at x = record { prefix = at; state = seen_state b name at x.state }

-- the line of the piece that made it
abbrev pub made_line : Problem → (name at : List ℕ) → Node → Vertex Terminal
made_line b name at x = node_line b name at x.made

-- what f makes of each; its name is the prefix of the node whose number is the value, which comes before it
abbrev pub seen_at : {V : Type 0} → ((name at : List ℕ) → Node → V) → (before : List (List ℕ)) → List (List ℕ) → List Node → List V
seen_at f before [] xs = []
seen_at f before (at ∷ ats) [] = []
seen_at f before (at ∷ ats) (x ∷ xs) = f (get_or before x.value []) at x ∷ seen_at f (before ++ at ∷ []) ats xs

abbrev pub nodes_of : Problem → List Node → List model.Node
nodes_of b xs = seen_at (seen_node b) [] (prefixes xs) xs

abbrev pub made_lines : Problem → List Node → List (Vertex Terminal)
made_lines b xs = seen_at (made_line b) [] (prefixes xs) xs

-- FLOORS

-- of each node that isn't split or dominated the value is the floor's
abbrev pub HaveFloors : Problem → List Node → Type 0
HaveFloors b nodes =
    (i : ℕ) → i < length nodes → has_floor (stored_at nodes i).state ≡ true → (stored_at nodes i).value ≡ floor_value b (get_or (prefixes nodes) i [])

-- DEPTHS

-- each is the length of the node's prefix, and 255 if that is more
abbrev pub HaveDepths : List Node → Type 0
HaveDepths nodes =
    (i : ℕ) → i < length nodes → (stored_at nodes i).depth ≡ min 255 (length (get_or (prefixes nodes) i []))
