use Rattle.std.proofs.Common.{◌≡◌}
use Rattle.s66_deep.proofs.best_first.writer.written.Given as goal

abbrev pub invariant-loop : goal.invariant-loop
invariant-loop l = l.trail ≡ l.fn.trail
