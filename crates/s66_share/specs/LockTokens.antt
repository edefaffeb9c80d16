-- Used by contracts: what a clause says of a worker's token at a lock: its seat record, whether it has the lock, and what it found
-- there.
use Rattle.std.specs.Prelude.{ℕ, ◌≡◌, ◌≤◌, List, [], ◌∷◌, None, Option}
use Rattle.atomic_table.specs.declared.shared.Seat.{Seat}
use Rattle.s66_model.specs.{Summary, SeatRecord}
use Rattle.s66_share.specs.SeatViews.{View, found_at, first_book, idle, holding, books_of}

module _ {X : Type 0} where
  abbrev pub book : Seat (Option X) View → SeatRecord
  book t = first_book t.me.0.books

  -- what it found under the lock
  abbrev pub found : Seat (Option X) View → Summary
  found t = found_at t.me.0.stage

  -- it has some seat records, and not the lock
  abbrev pub IsIdle : Seat (Option X) View → Type 0
  IsIdle t = t.me ≡ (idle t.me.0.books, [])

  -- it has one seat record, and not the lock
  abbrev pub IsResting : Seat (Option X) View → Type 0
  IsResting t = t.me ≡ (idle (book t ∷ []), [])

  -- it has one seat record, the lock and the empty slot
  abbrev pub IsHolding : Seat (Option X) View → Type 0
  IsHolding t = t.me ≡ (holding (found t) (book t ∷ []), (0, None) ∷ [])

-- each of n workers has a seat record among these
abbrev pub HaveEvery : ℕ → List SeatRecord → Type 0
HaveEvery workers books = (w : ℕ) → 1 ≤ w → w ≤ workers → 1 ≤ books_of w books
