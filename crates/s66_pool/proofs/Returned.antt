-- If the seats of all workers come back, each worker has one among them.
use Rattle.std.proofs.Common.{ℕ, zero, suc, ◌+◌, ◌≤◌, ◌<◌, ◌≡◌, ◌==◌, ◌∙◌, true, List, [], ◌∷◌, map, length, refl, sym, ap, subst, arith, inl, inr, eq-eqb}
use Rattle.std.proofs.lemmas.Bool.{cases_eq, or_left, or_right}
use Rattle.std.proofs.lemmas.List.{length-map}
use Rattle.s66_isa.specs.{some_of, rising}
use Rattle.s66_model.specs.{best_time, Summary, account_of, opened}
use Rattle.s66_model.proofs.Beginnings.{length-rising}
use Rattle.s66_ledger.specs.{LedgerOf, account_summary, events_of}
use Rattle.s66_pool.specs.{HubOf, SeatOf, HaveSeats, AreSameSeats, LedgerGoesOn}

have-seats-from : (f : ℕ → SeatOf) → ((n : ℕ) → (f n).book.who ≡ n) → (count low : ℕ) (back : List SeatOf) → AreSameSeats (map f (rising count low)) back →
    (w : ℕ) → low ≤ w → w < low + count → some_of (λ s. s.book.who == w) back ≡ true
have-seats-from f own zero low back same w from below = absurd (omega (arith, from, below))
have-seats-from f own (suc count) low [] same w from below = absurd (omega (arith, same.0))
have-seats-from f own (suc count) low (s ∷ back) same w from below =
    elim (cases_eq w low) [
      | inl here ↦ or_left (s.book.who == w) (some_of (λ s. s.book.who == w) back) (eq-eqb s.book.who w ((same.1 0 s (omega arith)).1 ∙ (own low ∙ sym here)))
      | inr other ↦
          or_right (s.book.who == w) (some_of (λ s. s.book.who == w) back)
          (have-seats-from f own count (suc low) back (omega (arith, same.0), λ i d lt. same.1 (suc i) d (omega (arith, lt))) w (omega (arith, from, other)) (omega (arith, below)))
    ]

-- a summary has an account for each worker
pub workers-counted : (s : Summary) (l : LedgerOf) → s ≡ account_summary l → length s.accounts ≡ l.workers
workers-counted s l is = ap (λ (x : Summary). length x.accounts) is ∙ (length-map (rising l.workers 1) (account_of (events_of l)) ∙ length-rising l.workers 1)

-- of a hub that opened with this ledger
pub have-seats : (hub : HubOf) (l : LedgerOf) (seats back : List SeatOf) → hub.summary ≡ account_summary l →
    seats ≡ map (λ w. record { hub = hub.id; book = opened hub.summary w }) (rising l.workers 1) → AreSameSeats seats back → HaveSeats (length hub.summary.accounts) back
have-seats hub l seats back is dealt same w from within =
    have-seats-from (λ n. record { hub = hub.id; book = opened hub.summary n }) (λ n. refl) l.workers 1 back (subst (λ (items : List SeatOf). AreSameSeats items back) dealt same) w from (omega (arith, within, workers-counted hub.summary l is))

-- what is closed is the ledger of the search that was opened, gone on with
pub closed-goes-on : (s : Summary) (l closed : LedgerOf) → s ≡ account_summary l → closed.rule ≡ s.rule → closed.problem ≡ s.problem → closed.budget ≡ s.budget → closed.workers ≡ length s.accounts
    → best_time closed.problem closed.state ≤ s.best → LedgerGoesOn l closed
closed-goes-on s l closed is by problem budget workers best = (
  problem ∙ ap (λ (x : Summary). x.problem) is,
  budget ∙ ap (λ (x : Summary). x.budget) is,
  workers ∙ workers-counted s l is,
  by ∙ ap (λ (x : Summary). x.rule) is,
  omega (arith, best, ap (λ (x : Summary). x.best) is),
)
