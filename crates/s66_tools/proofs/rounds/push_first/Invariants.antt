use Rattle.std.proofs.Common.{◌≡◌}
use Rattle.s66_isa.specs.{rising}
use Rattle.s66_tools.proofs.rounds.push_first.Given as goal

abbrev pub invariant-loop-position : goal.invariant-loop-position
invariant-loop-position l = record {
  block : l.clock.block ≡ l.initial.clock.block;
  numbers : l.clock.numbers ≡ rising l.position 1;
}
