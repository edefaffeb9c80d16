use Rattle.s66_deep.specs.{Looks}
use Rattle.s66_deep.proofs.best_first.search.Search.split.Given as goal

abbrev pub invariant-loop-n : goal.invariant-loop-n
invariant-loop-n l = Looks l.fn.self l.self
