use Rattle.std.proofs.Common.{vec_len}
use Rattle.s66_pool.specs.{IsSameMember}
use Rattle.s66_pool.proofs.worker.put_all.Given as goal

abbrev pub invariant-loop-ticket : goal.invariant-loop-ticket
invariant-loop-ticket g l = IsSameMember l.initial.member l.member

abbrev pub decreases-loop-ticket : goal.decreases-loop-ticket
decreases-loop-ticket g l = vec_len l.claimed
