use Rattle.std.proofs.Common.{◌+◌}
use Rattle.s66_checker.proofs.ReadyByNeeds.{Looked}
use Rattle.s66_checker.proofs.replay.needs.needs.Given as goal

abbrev pub invariant-loop-earlier : goal.invariant-loop-earlier
invariant-loop-earlier l = Looked l.block l.earlier (l.position + 1) l.needs
