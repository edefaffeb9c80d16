use Rattle.std.proofs.Common.{◌≡◌, take, length}
use Rattle.s66_checker.proofs.replay.needs.effects_of.Given as goal

abbrev pub invariant-loop-instr : goal.invariant-loop-instr
invariant-loop-instr l = record {
  effects : l.effects.items ≡ take l.instr-index l.block;
  count : length l.effects.items ≡ l.instr-index;
}
