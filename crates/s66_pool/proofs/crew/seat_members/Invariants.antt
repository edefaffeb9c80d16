use Rattle.std.proofs.Common.{◌≡◌, ◌≤◌, ◌+◌, ◌++◌, vec_len, vec_capacity}
use Rattle.s66_pool.specs.{locals_of, seats_of}
use Rattle.s66_pool.proofs.crew.seat_members.Given as goal

abbrev pub invariant-loop-members : goal.invariant-loop-members
invariant-loop-members l = record {
  count : vec_len l.locals ≡ vec_len l.seats;
  room : vec_len l.members + vec_len l.seats ≤ vec_capacity l.members;
  same_room : vec_capacity l.seats ≡ vec_capacity l.fn.seats;
  seats : seats_of l.members.items ++ l.seats.items ≡ l.fn.seats.items;
  locals : locals_of l.members.items ++ l.locals.items ≡ l.fn.locals.items;
}

abbrev pub decreases-loop-members : goal.decreases-loop-members
decreases-loop-members l = vec_len l.seats
