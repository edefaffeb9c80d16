use Rattle.std.proofs.Common.{◌≡◌, drop}
use Rattle.s66_why.specs.{cell}
use Rattle.s66_why.proofs.reservation.cell.Given as goal

abbrev pub invariant-loop-reservation : goal.invariant-loop-reservation
invariant-loop-reservation l = cell (drop l.reservation-index l.reservations) l.cycle ≡ cell l.reservations l.cycle
