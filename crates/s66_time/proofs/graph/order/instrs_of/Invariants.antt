use Rattle.std.proofs.Common.{◌≡◌, take, length}
use Rattle.s66_line.specs.{instrs_of}
use Rattle.s66_time.proofs.graph.order.instrs_of.Given as goal

abbrev pub invariant-loop-position : goal.invariant-loop-position
invariant-loop-position l = record {
  instrs : l.instrs.items ≡ take l.position (instrs_of l.block);
  count : length l.instrs.items ≡ l.position;
}
