-- To be believed: what contracts see of a hub and of a seat at it, and what a call makes of a seat.
use Rattle.std.specs.Prelude.{ℕ, ⊤, ◌≡◌, ◌≤◌, ◌==◌, true, List}
use Rattle.atomic_table.specs.Seated.{TableId}
use Rattle.s66_isa.specs.{some_of}
use Rattle.s66_model.specs.LedgerRuns as model
use Rattle.s66_model.specs.{Event, Reply, IsGraftOf, IsOfferOf, Summary, SeatRecord, after_event, TicketOf}
use Rattle.s66_time.specs.TimedOrder.{TimedOrder}
use Rattle.s66_node.specs.{PieceOf, tree_of}
use Rattle.s66_ledger.specs.{GraftError}
use Rattle.s66_ledger.specs.declared.reply.GraftError.TheVariants as refused
use Rattle.s66_pool.specs.declared.supply.Supply.{Supply}
use Rattle.s66_pool.specs.Supplies.{after_events, supplied}

-- which hub, and the summary of the ledger with which it opened
pub record HubOf : Type 0 where
  pub id : TableId
  pub summary : Summary

-- at which hub, and what it keeps of its worker
pub record SeatOf : Type 0 where
  pub hub : TableId
  pub book : SeatRecord

-- each of n workers has a seat among these
abbrev pub HaveSeats : ℕ → List SeatOf → Type 0
HaveSeats workers seats = (w : ℕ) → 1 ≤ w → w ≤ workers → some_of (λ s. s.book.who == w) seats ≡ true

-- after its worker's graft of this piece at a node, with this reply
abbrev pub HasGrafted : SeatOf → (node : ℕ) → PieceOf → Reply → SeatOf → Type 0
HasGrafted old node piece reply new =
    (event : Event) × IsGraftOf old.book.rule old.book.problem old.book.who node piece.rule piece.problem piece.prefix (tree_of piece) reply event
    × (new.book ≡ after_event old.book event reply)

-- after what its worker got in a turn
abbrev pub HasSupply : SeatOf → Supply → List TicketOf → SeatOf → Type 0
HasSupply old supply tickets new = new.book ≡ after_events old.book (supplied old.book.who supply tickets)

-- after such a graft that was taken, and what the worker got after it in the same turn
abbrev pub HasGraftedAndSupply : SeatOf → (node : ℕ) → PieceOf → Supply → List TicketOf → SeatOf → Type 0
HasGraftedAndSupply old node piece supply tickets new =
    (between : SeatOf) × HasGrafted old node piece model.Taken between × (between.book.who ≡ old.book.who) × HasSupply between supply tickets new

-- a refusal is a reply too, except out of memory, after which the seat is as it was
abbrev pub HasBeenRefused : SeatOf → (node : ℕ) → PieceOf → GraftError → SeatOf → Type 0
HasBeenRefused old node piece refused.NotOut new = HasGrafted old node piece model.NotOut new
HasBeenRefused old node piece refused.OtherPrefix new = HasGrafted old node piece model.OtherPrefix new
HasBeenRefused old node piece refused.OverAllowance new = HasGrafted old node piece model.OverAllowance new
HasBeenRefused old node piece refused.OutOfMemory new = new ≡ old

-- after its worker's offer of this order, with this reply
abbrev pub HasOffered : SeatOf → TimedOrder → Reply → SeatOf → Type 0
HasOffered old timed reply new =
    (event : Event) × IsOfferOf old.book.problem old.book.who timed.problem timed.numbers event × (new.book ≡ after_event old.book event reply)

-- an answered time isn't above the least that the seat knew
abbrev pub IsKnown : Reply → SeatRecord → Type 0
IsKnown (model.NotLower time) book = time ≤ book.least
IsKnown reply book = ⊤
