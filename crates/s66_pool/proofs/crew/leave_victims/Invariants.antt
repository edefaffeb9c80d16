use Rattle.std.proofs.Common.{◌≡◌, length}
use Rattle.s66_pool.specs.{VictimsMatchLanes, locals_of, seats_of}
use Rattle.s66_pool.proofs.Members.{victims_at}
use Rattle.s66_pool.proofs.crew.leave_victims.Given as goal

abbrev pub invariant-loop-victim : goal.invariant-loop-victim
invariant-loop-victim l = record {
  count : length l.members ≡ length l.fn.members;
  seats : seats_of l.members ≡ seats_of l.fn.members;
  placed : VictimsMatchLanes (locals_of l.members);
}

abbrev pub decreases-loop-victim : goal.decreases-loop-victim
decreases-loop-victim l = victims_at l.members l.worker
