-- A loop over the workers finds whether each has a seat (`have_seats`).
use Rattle.std.proofs.Common.{◌≡◌, ℕ, ◌+◌, ◌<◌, eqb, Bool, true, false, List, sym, ◌∙◌, arith}
use Rattle.s66_isa.specs.{some_of}
use Rattle.s66_pool.specs.{SeatOf, HaveSeats}

module _ (i : ℕ) (seats : List SeatOf) (found : Bool) (is : found ≡ some_of (λ s. eqb s.book.who (i + 1)) seats) where
  pub lacks-seat : (workers : ℕ) → i < workers → found ≡ false → HaveSeats workers seats → ⊥
  lacks-seat workers lt none all = let e : true ≡ false = sym (all (i + 1) (omega arith) (omega arith)) ∙ sym is ∙ none in cc
