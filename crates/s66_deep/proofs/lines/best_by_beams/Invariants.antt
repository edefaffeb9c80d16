use Rattle.s66_deep.specs.{IsGood}
use Rattle.s66_deep.proofs.lines.best_by_beams.Given as goal

abbrev pub invariant-loop-width : goal.invariant-loop-width
invariant-loop-width l = IsGood l.fn.instance l.best
