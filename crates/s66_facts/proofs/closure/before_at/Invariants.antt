use Rattle.std.proofs.Common.{◌+◌}
use Rattle.s66_facts.proofs.SoFar.{IsSoFar}
use Rattle.s66_facts.proofs.closure.before_at.Given as goal

abbrev pub invariant-loop-earlier : goal.invariant-loop-earlier
invariant-loop-earlier l = IsSoFar l.block (l.position + 1) l.earlier l.sooner
