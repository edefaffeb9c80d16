use Rattle.s66_deep.specs.{SearchGoesOn}
use Rattle.s66_deep.proofs.best_first.search.Search.run.Given as goal

abbrev pub invariant-loop : goal.invariant-loop
invariant-loop l = SearchGoesOn l.fn.self l.self
