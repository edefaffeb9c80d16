use Rattle.std.proofs.Common.{refl}
use Rattle.s66_pool.proofs.Members.{seats-set, lanes-set, victims-set, lane-at}
use Rattle.s66_pool.proofs.crew.leave_lane.Goals as goal

pub leave-requires : goal.leave-requires
leave-requires c = record { here = lane-at _ _ _ c.index-members-place.result c.place-place.ensures c.requires.here }

pub returns : goal.returns
returns c = record {
  seats = seats-set _ _ _ c.index-members-place.result refl;
  lanes = lanes-set _ _ _ c.index-members-place.result c.leave.ensures.same;
  victims = victims-set _ _ _ c.index-members-place.result refl;
}
