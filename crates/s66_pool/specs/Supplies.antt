-- To be believed: what a worker gets in one turn at the lock: the events of the ledger, and what they make of the worker's seat record.
use Rattle.std.specs.Prelude.{ℕ, Bool, true, false, ◌≡◌, ◌≢◌, ◌≤◌, ◌⊎◌, List, [], ◌∷◌, ◌++◌, length, map, Option, Some, None}
use Rattle.s66_model.specs.{Event, Reply, Grant, Granted, Claim, Claimed, SeatRecord, after_event, TicketOf}
use Rattle.s66_ledger.specs.{LedgerOf, IsEvent}
use Rattle.s66_pool.specs.declared.limits.TheConstants.{CLAIMS_LIMIT}
use Rattle.s66_pool.specs.declared.supply.Needs.{Needs}
use Rattle.s66_pool.specs.declared.supply.Supply.{Supply}

-- EVENTS, each with its reply, one after another

-- a seat record after these events of its worker
abbrev pub after_events : SeatRecord → List (Event × Reply) → SeatRecord
after_events book [] = book
after_events book (entry ∷ entries) = after_events (after_event book entry.0 entry.1) entries

-- THOSE THAT SUPPLY WORKER w

abbrev pub grants : (w : ℕ) → Option ℕ → List (Event × Reply)
grants w None = []
grants w (Some n) = (Grant w, Granted n) ∷ []

-- a claim for each ticket
abbrev pub claims : (w : ℕ) → List TicketOf → List (Event × Reply)
claims w tickets = map (λ t. (Claim w, Claimed (Some t.node))) tickets

-- and one that got no node
abbrev pub last_claim : (w : ℕ) → Bool → List (Event × Reply)
last_claim w true = (Claim w, Claimed None) ∷ []
last_claim w false = []

abbrev pub supplied : (w : ℕ) → Supply → List TicketOf → List (Event × Reply)
supplied w supply tickets = grants w supply.granted ++ (claims w tickets ++ last_claim w supply.none_open)

-- WHAT THE WORKER NEEDED

-- its claims went on until no node was open, it had enough, or memory ran out
abbrev pub IsClaimed : Supply → List TicketOf → Type 0
IsClaimed supply tickets =
    (length tickets ≤ CLAIMS_LIMIT) × ((supply.none_open ≡ true) ⊎ ((supply.out_of_memory ≡ true) ⊎ (length tickets ≡ CLAIMS_LIMIT)))

abbrev pub IsUnclaimed : Supply → List TicketOf → Type 0
IsUnclaimed supply tickets = (supply.none_open ≡ false) × (tickets ≡ [])

-- It was granted splits if it needed some, and it claimed if it needed nodes, unless nothing was left of the budget
pub record IsSupplyFor (needs : Needs) (supply : Supply) (tickets : List TicketOf) : Type 0 where
  pub no_splits : needs.splits ≡ false → supply.granted ≡ None
  pub splits : needs.splits ≡ true → (supply.out_of_memory ≡ true) ⊎ (supply.granted ≢ None)
  pub no_nodes : needs.nodes ≡ false → IsUnclaimed supply tickets
  pub spent : supply.granted ≡ Some 0 → IsUnclaimed supply tickets
  pub nodes : needs.nodes ≡ true → (supply.granted ≡ Some 0) ⊎ ((supply.out_of_memory ≡ true) ⊎ IsClaimed supply tickets)

-- USED WITHIN THE CRATE ALONE

-- these events lead from one ledger to another
abbrev pub AreEvents : LedgerOf → List (Event × Reply) → LedgerOf → Type 0
AreEvents old [] new = new ≡ old
AreEvents old (entry ∷ entries) new = (between : LedgerOf) × IsEvent old entry.0 entry.1 between × AreEvents between entries new
