use Rattle.std.proofs.Common.{◌≡◌, true, length}
use Rattle.s66_isa.specs.{numbers_in}
use Rattle.s66_model.specs.{is_ready}
use Rattle.s66_node.proofs.Schedules.{AreReady}
use Rattle.s66_node.proofs.schedule.first_ready.Given as goal

abbrev pub invariant-loop-number : goal.invariant-loop-number
invariant-loop-number l = record {
  same : l.walk ≡ l.fn.walk;
  best : is_ready l.fn.walk.problem.block l.fn.walk.numbers l.best.number ≡ true;
  rest : AreReady l.fn.walk.problem.block l.fn.walk.numbers (numbers_in l.rest);
}

abbrev pub decreases-loop-number : goal.decreases-loop-number
decreases-loop-number l = length (numbers_in l.rest)
