use Rattle.std.proofs.Common.{◌≡◌, ◌≤◌, ◌+◌, ◌*◌, drop}
use Rattle.s66_program.specs.{parcels_through}
use Rattle.s66_program.proofs.loops.Orders.parcels_through.Given as goal

abbrev pub invariant-loop-part : goal.invariant-loop-part
invariant-loop-part l = record {
  parcels : parcels_through l.self l.as_found l.place l.parcel (drop l.part-index l.parts) ≡ parcels_through l.self l.as_found l.fn.place 0 l.parts;
  small : l.parcel ≤ 400 * l.part-index;
  few : l.place ≤ l.fn.place + l.part-index;
}
