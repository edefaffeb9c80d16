-- Used by examples alone: ledgers and their histories, of the worked blocks of the model.
use Rattle.std.specs.Prelude.{ℕ, true, List, [], ◌∷◌, Some, None}
use Rattle.s66_isa.specs.{Boolean}
use Rattle.s66_model.specs.declared.rule.Rule.TheVariants.{NoneNamed}
use Rattle.s66_model.specs.Timing.{Problem}
use Rattle.s66_model.specs.Leaves.{Load}
use Rattle.s66_model.specs.DominatedLeaves.{Bounding}
use Rattle.s66_model.specs.Piece.{Frontier}
use Rattle.s66_model.specs.LedgerRuns.{State, Open, Out, Cut, Closed, Node, Ledger, Event, Grant, Claim, Graft, Offer, Reply, Granted, Claimed, Taken, NotOut, NotLower, Step, Run}
use Rattle.s66_model.specs.Examples.{one_split}

-- LEDGERS AND THEIR HISTORIES

abbrev pub node : List ℕ → State → Node
node prefix state = record { prefix = prefix; state = state }

-- a ledger's nodes, its best order, what is left of the budget, the allowances and what is spent
abbrev pub ledger : List Node → List ℕ → ℕ → List ℕ → ℕ → Ledger
ledger nodes best left allowances spent =
    record { nodes = nodes; best = best; left = left; allowances = allowances; spent = spent }

-- three_multiplies with a budget of 10 and two workers, all of it granted to worker 1; node 0 alone, in this state
abbrev pub first_node : State → Ledger
first_node state = ledger (node [] state ∷ []) (1 ∷ 2 ∷ 3 ∷ []) 0 (10 ∷ 0 ∷ []) 0

-- its root split by worker 1, and the children in these states
abbrev pub root_split : State → State → State → Ledger
root_split one two three =
    ledger (node [] Cut ∷ node (1 ∷ []) one ∷ node (2 ∷ []) two ∷ node (3 ∷ []) three ∷ []) (1 ∷ 2 ∷ 3 ∷ []) 0 (9 ∷ 0 ∷ []) 1

-- and the child 2 split by worker 1 too
abbrev pub second_split : Ledger
second_split =
    ledger (node [] Cut ∷ node (1 ∷ []) Open ∷ node (2 ∷ []) Cut ∷ node (3 ∷ []) Open ∷ node (2 ∷ 1 ∷ []) Open ∷ node (2 ∷ 3 ∷ []) Open ∷ []) (1 ∷ 2 ∷ 3 ∷ []) 0 (8 ∷ 0 ∷ []) 2

-- three_multiplies with node 0 open: so much is left, and worker 2 of two has been granted so much
abbrev pub granted_to_2 : ℕ → ℕ → Ledger
granted_to_2 left allowance = ledger (node [] Open ∷ []) (1 ∷ 2 ∷ 3 ∷ []) left (0 ∷ allowance ∷ []) 0

-- a budget of 10 of which nothing is granted to the one worker: these nodes and this best order
abbrev pub without_grants : List Node → List ℕ → Ledger
without_grants nodes best = ledger nodes best 10 (0 ∷ []) 0

-- a grant, a claim, a graft of one split, the same graft again, an offer, a grant of nothing, and a claim of a child
abbrev pub ledger_events : List (Event × Reply)
ledger_events =
    (Grant 1, Granted 10) ∷ (Claim 1, Claimed (Some 0)) ∷ (Graft 1 0 true [] 1 (Some (one_split Frontier)), Taken) ∷ (Graft 1 0 true [] 1 None, NotOut)
    ∷ (Offer 2 true (1 ∷ 2 ∷ 3 ∷ []) 22, NotLower 22) ∷ (Grant 2, Granted 0) ∷ (Claim 2, Claimed (Some 2)) ∷ []

-- one_load with a budget of 10, of which worker 2 has three splits: node 0 is out, and this order is the best
abbrev pub load_out : List ℕ → Ledger
load_out best = ledger (node [] Out ∷ []) best 7 (0 ∷ 3 ∷ []) 0

-- load_piece is grafted there, and its whole order takes this state
abbrev pub load_grafted : List ℕ → State → Ledger
load_grafted best whole =
    ledger (node [] Cut ∷ node (1 ∷ []) Cut ∷ node (1 ∷ 2 ∷ []) (Closed (Bounding (Load Boolean))) ∷ node (1 ∷ 3 ∷ []) Cut ∷ node (1 ∷ 3 ∷ 2 ∷ []) whole ∷ node (3 ∷ []) Open ∷ []) best 7 (0 ∷ 0 ∷ []) 3

-- one_load with a budget of 1 that was spent on a split at 1, below node 0, which is open
abbrev pub loose_split : Ledger
loose_split = ledger (node [] Open ∷ node (1 ∷ []) Cut ∷ []) (1 ∷ 2 ∷ 3 ∷ []) 0 (0 ∷ []) 1

-- the event doesn't get this reply, whatever it leads to
abbrev pub NeverAnswers : Problem → Ledger → Event → Reply → Type 0
NeverAnswers b old event reply = (new : Ledger) → ¬ Step NoneNamed b old event reply new

-- there is no such history, whatever it leads to
abbrev pub NeverRuns : Problem → Ledger → List (Event × Reply) → Type 0
NeverRuns b old history = (new : Ledger) → ¬ Run NoneNamed b old history new
