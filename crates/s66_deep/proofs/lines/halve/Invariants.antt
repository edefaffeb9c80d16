use Rattle.s66_deep.specs.{IsGood}
use Rattle.s66_deep.proofs.lines.halve.Given as goal

abbrev pub invariant-loop : goal.invariant-loop
invariant-loop l = IsGood l.fn.instance l.best
