use Rattle.s66_share.proofs.LaneMoves.{puts}
use Rattle.s66_share.proofs.lanes.owner.Lane.put.Goals as goal

pub push_as-requires-clause-pushes : goal.push_as-requires-clause-pushes
push_as-requires-clause-pushes c = puts _ _ _ c.self.invariant.1
