use Rattle.std.proofs.Common.{◌≡◌}
use Rattle.s66_test_search.proofs.ledger.stopped.Given as goal

abbrev pub invariant-loop-step : goal.invariant-loop-step
invariant-loop-step g l = l.ledger.workers ≡ 2
