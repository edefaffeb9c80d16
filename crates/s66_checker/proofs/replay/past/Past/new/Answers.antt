use Rattle.s66_checker.proofs.WordsOfPoints.{past-start}
use Rattle.s66_checker.proofs.replay.past.Past.new.Goals as goal

pub invariant_of-result : goal.invariant_of-result
invariant_of-result c = past-start _ _ _ c.new.ensures c.new-2.ensures c.new-3.ensures
