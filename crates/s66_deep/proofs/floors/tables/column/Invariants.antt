use Rattle.s66_deep.specs.{AreSmallWords}
use Rattle.s66_deep.proofs.floors.tables.column.Given as goal

abbrev pub invariant-loop-place : goal.invariant-loop-place
invariant-loop-place l = AreSmallWords l.words
