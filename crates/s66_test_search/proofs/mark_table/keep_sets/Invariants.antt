use Rattle.std.proofs.Common.{◌≡◌}
use Rattle.s66_test_search.proofs.mark_table.keep_sets.Given as goal

abbrev pub invariant-loop-set : goal.invariant-loop-set
invariant-loop-set g l = l.marks.problem ≡ l.initial.marks.problem
