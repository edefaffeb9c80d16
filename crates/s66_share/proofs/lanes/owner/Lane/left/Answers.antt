use Rattle.s66_share.proofs.LaneMoves.{settles}
use Rattle.s66_share.proofs.lanes.owner.Lane.left.Goals as goal

pub len_as-requires : goal.len_as-requires
len_as-requires c = settles _ _
