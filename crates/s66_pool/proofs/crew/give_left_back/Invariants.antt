use Rattle.s66_pool.specs.{IsSameSeat}
use Rattle.s66_pool.proofs.crew.give_left_back.Given as goal

abbrev pub invariant-loop : goal.invariant-loop
invariant-loop g l = IsSameSeat l.fn.member.seat l.member.seat
