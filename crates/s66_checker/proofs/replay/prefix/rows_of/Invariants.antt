use Rattle.std.proofs.Common.{◌≡◌, map, take, length}
use Rattle.s66_isa.specs.{row}
use Rattle.s66_checker.proofs.replay.prefix.rows_of.Given as goal

abbrev pub invariant-loop-instr : goal.invariant-loop-instr
invariant-loop-instr l = record {
  rows : l.rows.items ≡ map (row l.profile) (take l.instr-index l.block);
  count : length l.rows.items ≡ l.instr-index;
}
