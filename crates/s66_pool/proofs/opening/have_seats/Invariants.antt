use Rattle.s66_pool.specs.{HaveSeats}
use Rattle.s66_pool.proofs.opening.have_seats.Given as goal

abbrev pub invariant-loop-i : goal.invariant-loop-i
invariant-loop-i l = HaveSeats l.i l.seats
