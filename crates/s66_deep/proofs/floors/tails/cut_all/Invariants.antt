use Rattle.s66_deep.specs.{AreSmall}
use Rattle.s66_deep.proofs.floors.tails.cut_all.Given as goal

abbrev pub invariant-loop-place : goal.invariant-loop-place
invariant-loop-place l = AreSmall l.those
