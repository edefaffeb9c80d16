use Rattle.std.proofs.Common.{◌≡◌, ◌≤◌, length, map, take}
use Rattle.s66_why.specs.{unit_reservation}
use Rattle.s66_why.proofs.reservation.unit_reservations.Given as goal

abbrev pub invariant-loop-work : goal.invariant-loop-work
invariant-loop-work l = record {
  items : l.reservations.items ≡ map unit_reservation (take l.work-index l.works);
  few : length l.reservations.items ≤ l.work-index;
}
