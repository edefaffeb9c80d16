use Rattle.std.proofs.Common.{◌≡◌, []}
use Rattle.s66_tools.proofs.rounds.sum_of_rounds.Given as goal

abbrev pub invariant-loop-round : goal.invariant-loop-round
invariant-loop-round l = record {
  block : l.clock.block ≡ l.initial.clock.block;
  numbers : l.clock.numbers ≡ [];
}
