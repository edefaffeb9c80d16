use Rattle.std.proofs.Common.{◌≡◌, ◌+◌, length}
use Rattle.s66_tools.proofs.rounds.undo_all.Given as goal

abbrev pub invariant-loop-position : goal.invariant-loop-position
invariant-loop-position l = record {
  block : l.clock.block ≡ l.initial.clock.block;
  left : length l.clock.numbers + l.position ≡ l.count;
}
