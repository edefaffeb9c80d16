use Rattle.std.proofs.Common.{◌≡◌, eqb, drop}
use Rattle.s66_isa.specs.{some_of}
use Rattle.s66_pool.proofs.opening.has_seat.Given as goal

abbrev pub invariant-loop-seat : goal.invariant-loop-seat
invariant-loop-seat l = some_of (λ s. eqb s.book.who l.w) l.seats ≡ some_of (λ s. eqb s.book.who l.w) (drop l.seat-index l.seats)
