use Rattle.std.proofs.Common.{subst}
use Rattle.s66_model.specs.{IsBeginning}
use Rattle.s66_checker.specs.Checked.{Checked}
use Rattle.s66_checker.proofs.PrefixSteps.{prefix-timed}
use Rattle.s66_checker.proofs.TwoPrefixes.{keeps}
use Rattle.s66_checker.proofs.replay.prefix.Prefix.points.Goals as goal

pub returns-clause-timed : goal.returns-clause-timed
returns-clause-timed c = rw c.points.ensures (prefix-timed _ _ _ _ _ _ _ c.self.invariant)

pub returns-clause-begins : goal.returns-clause-begins
returns-clause-begins c = subst (λ (q : Checked). IsBeginning q.problem.block q.numbers) c.self.view_is (keeps _ _ _ _ _ _ _ c.self.invariant).begins
