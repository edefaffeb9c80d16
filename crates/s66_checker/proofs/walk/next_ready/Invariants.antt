use Rattle.std.proofs.Common.{◌≡◌, ◌-◌}
use Rattle.s66_model.specs.{ready_above}
use Rattle.s66_checker.proofs.walk.next_ready.Given as goal

-- nothing is ready from n on to the number
abbrev pub invariant-loop-number : goal.invariant-loop-number
invariant-loop-number l = ready_above l.prefix.problem.block l.prefix.numbers l.number ≡ ready_above l.prefix.problem.block l.prefix.numbers l.n

abbrev pub decreases-loop-number : goal.decreases-loop-number
decreases-loop-number l = l.count - l.number
