use Rattle.std.proofs.Common.{◌≡◌}
use Rattle.s66_test_search.proofs.lanes.steal_some.Given as goal

abbrev pub invariant-loop : goal.invariant-loop
invariant-loop g l = l.pass.lane ≡ l.initial.pass.lane
