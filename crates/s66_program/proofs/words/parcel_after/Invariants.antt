use Rattle.std.proofs.Common.{◌≡◌, ◌≤◌, ◌+◌, ◌*◌, drop}
use Rattle.s66_line.specs.{instrs_of}
use Rattle.s66_program.specs.{parcel_after}
use Rattle.s66_program.proofs.words.parcel_after.Given as goal

abbrev pub invariant-loop-number : goal.invariant-loop-number
invariant-loop-number l = record {
  after : parcel_after (instrs_of l.block) l.parcel (drop l.number-index l.order) ≡ parcel_after (instrs_of l.block) l.fn.parcel l.order;
  small : l.parcel ≤ l.fn.parcel + 3 * l.number-index;
}
