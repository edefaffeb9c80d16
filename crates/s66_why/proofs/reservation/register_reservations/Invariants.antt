use Rattle.std.proofs.Common.{◌≡◌, ◌≤◌, ◌++◌, drop, length}
use Rattle.s66_why.specs.{register_reservations}
use Rattle.s66_why.proofs.reservation.register_reservations.Given as goal

abbrev pub invariant-loop-point : goal.invariant-loop-point
invariant-loop-point l = record {
  items : l.reservations.items ++ register_reservations l.register (drop l.point-index l.points) ≡ register_reservations l.register l.points;
  few : length l.reservations.items ≤ l.point-index;
}
