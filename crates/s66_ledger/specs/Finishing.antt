-- Used by contracts: the events by which a ledger goes on, and those by which it is brought to its end.
use Rattle.std.specs.Prelude.{ℕ, ◌+◌, ◌-◌, ◌≡◌, ◌<◌, ◌≤◌, ◌⊎◌, ◌≢◌, Bool, true, List, length, Some}
use Rattle.s66_isa.specs.{Among, weigh, tally}
use Rattle.s66_model.specs.{Problem, IsComplete, floor_value, Tree, splits, Terminal, TreeOpens, Ledger, Node, Out, Event, Reply, Run, Graft, Taken, IsOut, is_open, is_out, is_live, best_time}
use Rattle.s66_model.specs.{allowance, node_at, after_offer, TicketOf}
use Rattle.s66_node.specs.{PieceOf, tree_of, IsExpandedPiece}
use Rattle.s66_ledger.specs.Ledgers.{LedgerOf, IsEvent}
use Rattle.s66_ledger.specs.PieceSplits.{piece_splits}

-- some events lead from one to the other
abbrev pub Leads : LedgerOf → LedgerOf → Type 0
Leads old new =
    (new.problem ≡ old.problem) × (new.budget ≡ old.budget) × (new.workers ≡ old.workers)
    × ((events : List (Event × Reply)) × Run old.rule old.problem old.state events new.state)
    × (new.rule ≡ old.rule)

abbrev pub NoneOut : Ledger → Type 0
NoneOut l = (node : Node) → Among node l.nodes → node.state ≢ Out

-- no worker holds a node or an allowance
pub record IsIdle (l : Ledger) : Type 0 where
  pub none_out : NoneOut l
  pub no_allowance : weigh (λ n. n) l.allowances ≡ 0

-- no whole order that is still open or out is below the best time
abbrev pub WholesAreTimed : Problem → Ledger → Type 0
WholesAreTimed b l =
    (node : Node) → Among node l.nodes → is_live node ≡ true → IsComplete b.block node.prefix → best_time b l ≤ floor_value b node.prefix

-- no node is out, and none that is open has a floor below the best time, or the budget is spent and none of these is a whole order
pub record IsSearched (b : Problem) (budget : ℕ) (l : Ledger) : Type 0 where
  pub none_out : NoneOut l
  pub open_or_spent : ((node : Node) → Among node l.nodes → is_open node ≡ true → best_time b l ≤ floor_value b node.prefix) ⊎ (l.spent ≡ budget)
  pub wholes : WholesAreTimed b l

-- an order is offered, or some are: nothing changes but the best one
pub record IsOffering (old new : LedgerOf) : Type 0 where
  pub leads : Leads old new
  pub same : new.state ≡ after_offer old.state new.state.best

-- ONE BY ONE

-- no node below this number is out
abbrev pub NoneOutBelow : ℕ → Ledger → Type 0
NoneOutBelow count l = (i : ℕ) → i < count → (node_at l.nodes i).state ≢ Out

-- the node isn't out any more, nor is one before it that wasn't
pub record IsReopening (old : LedgerOf) (node : ℕ) (new : LedgerOf) : Type 0 where
  pub leads : Leads old new
  pub in_hand : NoneOutBelow node old.state → NoneOutBelow (node + 1) new.state
  pub count : length new.state.nodes ≡ length old.state.nodes
  pub allowances : new.state.allowances ≡ old.state.allowances

-- a node's whole order isn't still open or out below the best time
abbrev pub IsTimedAt : Problem → Ledger → ℕ → Type 0
IsTimedAt b l i =
    is_live (node_at l.nodes i) ≡ true → IsComplete b.block (node_at l.nodes i).prefix → best_time b l ≤ floor_value b (node_at l.nodes i).prefix

-- the node's order is offered if it is whole
pub record IsTiming (old : LedgerOf) (node : ℕ) (new : LedgerOf) : Type 0 where
  pub offers : IsOffering old new
  pub timed : IsTimedAt new.problem new.state node

-- ROUNDS of worker 1

-- between two rounds: no node is out, no other worker has an allowance, and no whole order is below the best time
pub record IsBetweenRounds (b : Problem) (l : Ledger) : Type 0 where
  pub none_out : NoneOut l
  pub alone : weigh (λ n. n) l.allowances ≡ allowance l 1
  pub wholes : WholesAreTimed b l

-- within a round: the ticket's node is out and no other is, no other worker has an allowance, and no whole order is below the best time
pub record IsWithinRound (b : Problem) (l : Ledger) (ticket : TicketOf) : Type 0 where
  pub out : IsOut l ticket.node
  pub prefix : ticket.prefix ≡ (node_at l.nodes ticket.node).prefix
  pub one_out : tally is_out l.nodes ≡ 1
  pub alone : weigh (λ n. n) l.allowances ≡ allowance l 1
  pub wholes : WholesAreTimed b l

-- a piece was expanded from the prefix by the best time, with as many splits as one of worker 1's may have
abbrev pub IsRoundPiece : LedgerOf → List ℕ → PieceOf → Type 0
IsRoundPiece l =
    IsExpandedPiece l.rule l.problem (best_time l.problem l.state) (best_time l.problem l.state) (piece_splits l.rule (allowance l.state 1))

-- worker 1's piece is in the place of the node, with some of its dominated prefixes left open
pub record IsTaken (old : LedgerOf) (node : ℕ) (piece : PieceOf) (new : LedgerOf) : Type 0 where
  pub own : Bool
  pub part : Tree Terminal
  pub opens : TreeOpens (tree_of piece) part
  pub event : IsEvent old (Graft 1 node own piece.prefix (splits part) (Some part)) Taken new

-- what a search still has: splits of the budget, and minor cycles of the best time
abbrev pub still_to_go : LedgerOf → ℕ
still_to_go l = (l.budget - l.state.spent) + best_time l.problem l.state
