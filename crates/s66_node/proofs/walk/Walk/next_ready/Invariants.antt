use Rattle.std.proofs.Common.{◌≡◌, ◌-◌}
use Rattle.s66_model.specs.{ready_above}
use Rattle.s66_node.proofs.walk.Walk.next_ready.Given as goal

-- what is ready above n is above this number too
abbrev pub invariant-loop-number : goal.invariant-loop-number
invariant-loop-number l = ready_above l.self.problem.block l.self.numbers l.number ≡ ready_above l.self.problem.block l.self.numbers l.n

abbrev pub decreases-loop-number : goal.decreases-loop-number
decreases-loop-number l = l.count - l.number
