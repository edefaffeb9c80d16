-- To be believed: the ledger of a search as a machine: nodes, events, replies, steps and runs.
--
-- A grant moves the least of 64 and what is left to the worker's allowance, and retire gives that back. A claim hands out any open
-- node, and none only if none is open; back opens it again. A graft takes a piece over a node that is out, if its splits are within the
-- allowance; it closes each leaf of at least the best time and each dominated prefix, and leaves the rest open. An offer takes an order
-- that is faster than the best.
use Rattle.std.specs.Prelude.{ℕ, ◌+◌, ◌-◌, ◌≡◌, ◌<◌, ◌≤◌, Bool, true, false, if◌then◌else◌, min, List, [], ◌∷◌, ◌++◌, length, get_or, set, nat_le, Option, Some, None, replicate}
use Rattle.s66_isa.specs.{tally, Among, numbers}
use Rattle.s66_model.specs.declared.rule.Rule.{Rule}
use Rattle.s66_model.specs.declared.rule.Rule.TheVariants.{NoneNamed, WrittenEarlier, ClampedStanding}
use Rattle.s66_model.specs.Timing.{Problem, total_of}
use Rattle.s66_model.specs.LegalOrder.{IsLegal}
use Rattle.s66_model.specs.Leaves.{value}
use Rattle.s66_model.specs.Trees.{Tree, Alone, Parted, Siblings, NoMore, Unsplit, Split, splits, TreeHolds}
use Rattle.s66_model.specs.FactLeaves.{names_none}
use Rattle.s66_model.specs.DominatedLeaves.{Ending, Bounding, Dominated, Factual}
use Rattle.s66_model.specs.Piece.{Terminal, Carries, Frontier, Passed, IsPiece}

-- NODES

-- a node can be claimed, is handed out, is split, or is closed with a leaf or as dominated
pub data State : Type 0 where
  Open : State
  Out : State
  Cut : State
  Closed : Ending → State

pub record Node : Type 0 where
  pub prefix : List ℕ
  pub state : State

abbrev pub is_cut_state : State → Bool
is_cut_state Open = false
is_cut_state Out = false
is_cut_state Cut = true
is_cut_state (Closed ending) = false

abbrev pub is_open_state : State → Bool
is_open_state Open = true
is_open_state Out = false
is_open_state Cut = false
is_open_state (Closed ending) = false

abbrev pub is_live_state : State → Bool
is_live_state Open = true
is_live_state Out = true
is_live_state Cut = false
is_live_state (Closed ending) = false

abbrev pub is_out_state : State → Bool
is_out_state Open = false
is_out_state Out = true
is_out_state Cut = false
is_out_state (Closed ending) = false

abbrev pub is_cut : Node → Bool
is_cut node = is_cut_state node.state

abbrev pub is_open : Node → Bool
is_open node = is_open_state node.state

abbrev pub is_out : Node → Bool
is_out node = is_out_state node.state

-- open or out
abbrev pub is_live : Node → Bool
is_live node = is_live_state node.state

-- nodes are numbered from 0 in the order of their making; any other number stands for one that is cut, so nothing can be claimed or grafted there
abbrev pub no_node : Node
no_node = record { prefix = []; state = Cut }

abbrev pub node_at : List Node → ℕ → Node
node_at nodes i = get_or nodes i no_node

abbrev pub with_state : List Node → ℕ → State → List Node
with_state nodes i state = set nodes i (record { prefix = (node_at nodes i).prefix; state = state })

-- THE STATE

-- the best order so far; how many splits of the budget are left, allowed to each worker, and spent
pub record Ledger : Type 0 where
  pub nodes : List Node
  pub best : List ℕ
  pub left : ℕ
  pub allowances : List ℕ
  pub spent : ℕ

abbrev pub best_time : Problem → Ledger → ℕ
best_time b l = total_of b l.best

-- workers count from 1
abbrev pub IsWorker : Ledger → ℕ → Type 0
IsWorker l w = (1 ≤ w) × (w ≤ length l.allowances)

abbrev pub allowance : Ledger → ℕ → ℕ
allowance l w = get_or l.allowances (w - 1) 0

abbrev pub with_allowance : Ledger → ℕ → ℕ → List ℕ
with_allowance l w splits = set l.allowances (w - 1) splits

-- node 0 is the empty prefix, open; the best is the source order; nobody has an allowance
abbrev pub opening : Problem → ℕ → ℕ → Ledger
opening b budget workers =
    record {
      nodes = record { prefix = []; state = Open } ∷ [];
      best = numbers b.block;
      left = budget;
      allowances = replicate workers 0;
      spent = 0;
    }

-- EVENTS AND REPLIES

-- own: the piece or the order is of this block and profile; a Graft has its tree if it was taken
pub data Event : Type 0 where
  Grant : (w : ℕ) → Event
  Claim : (w : ℕ) → Event
  Graft : (w node : ℕ) (own : Bool) (prefix : List ℕ) (splits : ℕ) (tree : Option (Tree Terminal)) → Event
  Offer : (w : ℕ) (own : Bool) (order : List ℕ) (time : ℕ) → Event
  Back : (w node : ℕ) → Event
  Retire : (w : ℕ) → Event

pub data Reply : Type 0 where
  Granted : ℕ → Reply
  Claimed : Option ℕ → Reply
  Taken : Reply
  NotOut : Reply
  OtherPrefix : Reply
  OverAllowance : Reply
  Lower : Reply
  NotLower : ℕ → Reply
  OtherBlock : Reply
  Returned : Reply
  Retired : Reply

abbrev pub worker : Event → ℕ
worker (Grant w) = w
worker (Claim w) = w
worker (Graft w node own prefix splits tree) = w
worker (Offer w own order time) = w
worker (Back w node) = w
worker (Retire w) = w

-- WHAT THE EVENTS MAKE OF A STATE

-- the most splits that one grant moves
abbrev pub grant_limit : ℕ
grant_limit = 64

-- what a grant moves: that, or what is left if that is less
abbrev pub share_of : Ledger → ℕ
share_of l = min grant_limit l.left

abbrev pub after_grant : Ledger → ℕ → Ledger
after_grant l w = record l { left = l.left - share_of l; allowances = with_allowance l w (allowance l w + share_of l) }

abbrev pub after_retire : Ledger → ℕ → Ledger
after_retire l w = record l { left = l.left + allowance l w; allowances = with_allowance l w 0 }

abbrev pub after_move : Ledger → ℕ → State → Ledger
after_move l i state = record l { nodes = with_state l.nodes i state }

abbrev pub after_offer : Ledger → List ℕ → Ledger
after_offer l order = record l { best = order }

-- an unsplit prefix is closed if it carries a leaf of value at least the best time or is dominated, else open
abbrev pub state_of : Problem → ℕ → List ℕ → Terminal → State
state_of b best prefix (Carries leaf) = if nat_le best (value b prefix leaf) then Closed (Bounding leaf) else Open
state_of b best prefix Frontier = Open
state_of b best prefix (Passed name) = Closed (Dominated name)

abbrev pub root_state : Problem → ℕ → List ℕ → Tree Terminal → State
root_state b best prefix (Alone terminal) = state_of b best prefix terminal
root_state b best prefix (Parted numbers siblings) = Cut

-- the piece's other prefixes, in preorder
abbrev pub sibling_nodes : Problem → ℕ → List ℕ → List ℕ → Siblings Terminal → List Node
sibling_nodes b best prefix [] siblings = []
sibling_nodes b best prefix (n ∷ ns) NoMore = []
sibling_nodes b best prefix (n ∷ ns) (Unsplit terminal siblings) =
    record { prefix = prefix ++ n ∷ []; state = state_of b best (prefix ++ n ∷ []) terminal } ∷ sibling_nodes b best prefix ns siblings
sibling_nodes b best prefix (n ∷ ns) (Split numbers sub siblings) =
    record { prefix = prefix ++ n ∷ []; state = Cut } ∷ (sibling_nodes b best (prefix ++ n ∷ []) numbers sub ++ sibling_nodes b best prefix ns siblings)

abbrev pub new_nodes : Problem → ℕ → List ℕ → Tree Terminal → List Node
new_nodes b best prefix (Alone terminal) = []
new_nodes b best prefix (Parted numbers siblings) = sibling_nodes b best prefix numbers siblings

-- the piece's splits are spent, the node takes the state of the piece's root, and the piece's other prefixes become nodes
abbrev pub after_graft : Problem → Ledger → ℕ → ℕ → List ℕ → Tree Terminal → Ledger
after_graft b l w i prefix tree =
    record l {
      nodes = with_state l.nodes i (root_state b (best_time b l) prefix tree) ++ new_nodes b (best_time b l) prefix tree;
      allowances = with_allowance l w (allowance l w - splits tree);
      spent = l.spent + splits tree;
    }

-- NODES THAT ARE NAMED

-- by the rule a node in this state may be named
abbrev pub may_name : Rule → State → Bool
may_name NoneNamed state = false
may_name WrittenEarlier state = true
may_name ClampedStanding Open = true
may_name ClampedStanding Out = true
may_name ClampedStanding Cut = true
may_name ClampedStanding (Closed (Bounding leaf)) = true
may_name ClampedStanding (Closed (Dominated name)) = false
may_name ClampedStanding (Closed (Factual leaf)) = names_none leaf

abbrev pub HasNamed : Rule → List Node → List ℕ → Type 0
HasNamed rule nodes name = (node : Node) × Among node nodes × (node.prefix ≡ name) × (may_name rule node.state ≡ true)

abbrev pub TerminalIsNamed : Rule → List Node → List ℕ → Terminal → Type 0
TerminalIsNamed rule nodes at (Carries leaf) = Unit {0}
TerminalIsNamed rule nodes at Frontier = Unit {0}
TerminalIsNamed rule nodes at (Passed name) = HasNamed rule nodes name

-- each name in the piece is that of one of these nodes
abbrev pub AreNamed : Rule → Problem → List Node → List ℕ → Tree Terminal → Type 0
AreNamed rule b nodes prefix tree = TreeHolds b.block (TerminalIsNamed rule nodes) prefix tree

-- STEPS

abbrev pub IsOut : Ledger → ℕ → Type 0
IsOut l i = (i < length l.nodes) × ((node_at l.nodes i).state ≡ Out)

-- the piece is over the node's prefix of this block and profile
abbrev pub IsOver : Ledger → ℕ → Bool → List ℕ → Type 0
IsOver l i own prefix = (own ≡ true) × (prefix ≡ (node_at l.nodes i).prefix)

-- the order is a legal one of this block and profile, and this is its total
abbrev pub IsTimed : Problem → Bool → List ℕ → ℕ → Type 0
IsTimed b own order time = (own ≡ true) × IsLegal b.block order × (time ≡ total_of b order)

-- from old, by the rule, the event may have this reply and lead to new; nothing more is required of a piece or an order that is
-- refused
abbrev pub Moves : Rule → Problem → Ledger → Event → Reply → Ledger → Type 0
Moves rule b old (Grant w) (Granted n) new = (n ≡ share_of old) × (new ≡ after_grant old w)
Moves rule b old (Claim w) (Claimed (Some i)) new =
    (i < length old.nodes) × ((node_at old.nodes i).state ≡ Open) × (new ≡ after_move old i Out)
Moves rule b old (Claim w) (Claimed None) new = (tally is_open old.nodes ≡ 0) × (new ≡ old)
Moves rule b old (Graft w i own prefix count None) NotOut new = ¬ IsOut old i × (new ≡ old)
Moves rule b old (Graft w i own prefix count None) OtherPrefix new = IsOut old i × ¬ IsOver old i own prefix × (new ≡ old)
Moves rule b old (Graft w i own prefix count None) OverAllowance new =
    IsOut old i × IsOver old i own prefix × (allowance old w < count) × (new ≡ old)
Moves rule b old (Graft w i own prefix count (Some tree)) Taken new =
    IsOut old i × IsOver old i own prefix × (count ≤ allowance old w) × (count ≡ splits tree) × IsPiece rule b prefix tree
    × (new ≡ after_graft b old w i prefix tree) × AreNamed rule b new.nodes prefix tree
Moves rule b old (Offer w own order time) OtherBlock new = (own ≡ false) × (new ≡ old)
Moves rule b old (Offer w own order time) Lower new =
    IsTimed b own order time × (time < best_time b old) × (new ≡ after_offer old order)
Moves rule b old (Offer w own order time) (NotLower least) new =
    IsTimed b own order time × (best_time b old ≤ time) × (least ≡ best_time b old) × (new ≡ old)
Moves rule b old (Back w i) NotOut new = ¬ IsOut old i × (new ≡ old)
Moves rule b old (Back w i) Returned new = IsOut old i × (new ≡ after_move old i Open)
Moves rule b old (Retire w) Retired new = new ≡ after_retire old w
Moves rule b old event reply new = ⊥

abbrev pub Step : Rule → Problem → Ledger → Event → Reply → Ledger → Type 0
Step rule b old event reply new = IsWorker old (worker event) × Moves rule b old event reply new

-- each entry is a step from the state before
abbrev pub Run : Rule → Problem → Ledger → List (Event × Reply) → Ledger → Type 0
Run rule b old [] new = new ≡ old
Run rule b old (entry ∷ entries) new = (mid : Ledger) × Step rule b old entry.0 entry.1 mid × Run rule b mid entries new
