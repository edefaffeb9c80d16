use Rattle.std.proofs.Common.{◌≡◌}
use Rattle.s66_test_search.proofs.mark_table.move_entries.Given as goal

abbrev pub invariant-loop : goal.invariant-loop
invariant-loop l = (l.from.problem ≡ l.initial.from.problem) × (l.to.problem ≡ l.initial.to.problem)
