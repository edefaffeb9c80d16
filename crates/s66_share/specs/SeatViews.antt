-- Used by contracts: what a token of the lock knows of the value under it.
use Rattle.std.specs.Prelude.{ℕ, ◌≡◌, ◌≢◌, ◌≤◌, ◌==◌, List, [], ◌∷◌, length, map}
use Rattle.s66_isa.specs.{tally, rising, standard}
use Rattle.s66_model.specs.{NoneNamed, Summary, SeatRecord, Agrees, opened}

-- whether the seat has the lock
pub data Stage : Type 0 where
  Idle : Stage
  -- it has, and the value has yet to come under it
  Founding : Summary → Stage
  -- it has, and found this
  Holding : Summary → Stage

-- and the seat records in its keeping
pub record View : Type 0 where
  pub stage : Stage
  pub books : List SeatRecord

abbrev pub idle : List SeatRecord → View
idle books = record { stage = Idle; books = books }

abbrev pub holding : Summary → List SeatRecord → View
holding s books = record { stage = Holding s; books = books }

-- a seat record for each worker
abbrev pub all_opened : Summary → List SeatRecord
all_opened s = map (opened s) (rising (length s.accounts) 1)

abbrev pub founding : Summary → View
founding s = record { stage = Founding s; books = all_opened s }

abbrev pub first_of : List SeatRecord → List SeatRecord
first_of [] = []
first_of (p ∷ ps) = p ∷ []

abbrev pub rest_of : List SeatRecord → List SeatRecord
rest_of [] = []
rest_of (p ∷ ps) = ps

-- how many of the seat records are the worker's
abbrev pub books_of : ℕ → List SeatRecord → ℕ
books_of w books = tally (λ p. p.who == w) books

-- SUMMARIES

-- the search goes on from one to the other: neither rule nor problem nor budget nor the number of workers differs, and the best time
-- doesn't rise
pub record SummaryGoesOn (s t : Summary) : Type 0 where
  pub rule : t.rule ≡ s.rule
  pub problem : t.problem ≡ s.problem
  pub budget : t.budget ≡ s.budget
  pub workers : length t.accounts ≡ length s.accounts
  pub best : t.best ≤ s.best

-- what a call of the worker may make of a summary: the seat records of all others still agree
pub record MayBecome (who : ℕ) (s t : Summary) : Type 0 where
  pub search : SummaryGoesOn s t
  pub others : (p : SeatRecord) → p.who ≢ who → Agrees s p → Agrees t p

-- the worker's seat record, opened anew with this least time
abbrev pub renewed : Summary → SeatRecord → ℕ → SeatRecord
renewed s p least = record (opened s p.who) { least = least }

-- IN A CLAUSE: what a seat has, with something in the place of what it hasn't

abbrev pub no_summary : Summary
no_summary = record { rule = NoneNamed; problem = record { block = []; profile = standard }; budget = 0; best = 0; accounts = [] }

abbrev pub found_at : Stage → Summary
found_at Idle = no_summary
found_at (Founding s) = s
found_at (Holding s) = s

abbrev pub first_book : List SeatRecord → SeatRecord
first_book [] = opened no_summary 0
first_book (p ∷ ps) = p
