use Rattle.std.proofs.Common.{◌≡◌, All, length}
use Rattle.s66_pool.specs.{AreSameSeats, VictimsMatchLanes, locals_of, seats_of}
use Rattle.s66_pool.proofs.crew.settle.Given as goal

abbrev pub invariant-loop-worker : goal.invariant-loop-worker
invariant-loop-worker g l = record {
  count : length l.members ≡ length l.fn.members;
  seats : seats_of l.members ≡ seats_of l.fn.members;
  placed : VictimsMatchLanes (locals_of l.members);
}

abbrev pub invariant-loop-worker-2 : goal.invariant-loop-worker-2
invariant-loop-worker-2 g l = record {
  count : length l.members ≡ length l.fn.members;
  same : AreSameSeats (seats_of l.fn.members) (seats_of l.members);
  here : All (λ s. s.hub ≡ l.hub.id) (seats_of l.members);
}
