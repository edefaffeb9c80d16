use Rattle.std.proofs.Common.{◌≤◌}
use Rattle.s66_deep.specs.{IsGood}
use Rattle.s66_deep.proofs.search.raise.Given as goal

abbrev pub invariant-loop : goal.invariant-loop
invariant-loop l =
    record {
      best : IsGood l.fn.instance l.best;
      made : l.made ≤ l.most;
    }
