use Rattle.s66_checker.proofs.PrefixSteps.{prefix-timed}
use Rattle.s66_checker.proofs.replay.prefix.Prefix.past.Goals as goal

pub returns-clause-timed : goal.returns-clause-timed
returns-clause-timed c = prefix-timed _ _ _ _ _ _ _ c.self.invariant
