use Rattle.s66_pool.specs.{IsSameMember}
use Rattle.s66_pool.proofs.worker.Worker.take_steps.Given as goal

abbrev pub invariant-loop : goal.invariant-loop
invariant-loop g l = IsSameMember l.initial.member l.member
