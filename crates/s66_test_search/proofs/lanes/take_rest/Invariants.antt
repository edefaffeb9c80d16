use Rattle.std.proofs.Common.{◌≡◌}
use Rattle.s66_test_search.proofs.lanes.take_rest.Given as goal

abbrev pub invariant-loop : goal.invariant-loop
invariant-loop g l = l.lane.id ≡ l.initial.lane.id
