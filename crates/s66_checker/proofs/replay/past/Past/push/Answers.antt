use Rattle.s66_checker.proofs.WordsOfPoints.{past-push}
use Rattle.s66_checker.proofs.replay.past.Past.push.Goals as goal

pub invariant_of-self : goal.invariant_of-self
invariant_of-self c = past-push _ _ _ _ _ _ _ c.self.invariant (c.push-2.ensures c.self.inside.points.items) c.push-3.ensures.items c.push.ensures.items
