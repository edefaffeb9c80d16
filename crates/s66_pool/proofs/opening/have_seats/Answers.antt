use Rattle.std.proofs.Common.{◌≡◌, true, false}
use Rattle.s66_pool.proofs.Present.{lacks-seat}
use Rattle.s66_pool.proofs.opening.have_seats.Goals as goal

pub returns-then-not-has_seat : goal.returns-then-not-has_seat
returns-then-not-has_seat c =
    ((λ (is : false ≡ true). cc), λ all. absurd (lacks-seat c.loop-i.i c.args.seats.now c.has_seat.result c.has_seat.ensures c.args.workers c.loop-i-test.true c.if-not-has_seat.true all))
