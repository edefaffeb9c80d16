use Rattle.std.proofs.Common.{◌≤◌, length}
use Rattle.s66_bound.specs.{AreRegisters}
use Rattle.s66_bound.proofs.WrittenRegisters.{AreListed}
use Rattle.s66_bound.proofs.tables.written_registers.Given as goal

abbrev pub invariant-loop-index : goal.invariant-loop-index
invariant-loop-index l = record {
  few : length l.written.items ≤ l.index;
  registers : AreRegisters l.written.items;
  listed : AreListed l.costs l.index l.written.items;
}
