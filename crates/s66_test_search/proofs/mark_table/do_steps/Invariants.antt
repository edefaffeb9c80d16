use Rattle.std.proofs.Common.{◌≡◌}
use Rattle.s66_test_search.proofs.mark_table.do_steps.Given as goal

abbrev pub invariant-loop-step : goal.invariant-loop-step
invariant-loop-step g l = l.marks.problem ≡ l.initial.marks.problem
