use Rattle.std.proofs.Common.{◌≡◌, ◌≤◌, ◌+◌, ◌++◌, vec_len, vec_capacity}
use Rattle.s66_pool.specs.{seats_of}
use Rattle.s66_pool.proofs.crew.take_seats.Given as goal

abbrev pub invariant-loop-members : goal.invariant-loop-members
invariant-loop-members l = record {
  room : vec_len l.seats + vec_len l.members ≤ vec_capacity l.seats;
  seats : l.seats.items ++ seats_of l.members.items ≡ seats_of l.fn.members.items;
}

abbrev pub decreases-loop-members : goal.decreases-loop-members
decreases-loop-members l = vec_len l.members
