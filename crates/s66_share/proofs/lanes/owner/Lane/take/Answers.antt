use Rattle.s66_share.proofs.LaneMoves.{takes}
use Rattle.s66_share.proofs.lanes.owner.Lane.take.Goals as goal

pub pop_as-requires-clause-fifo : goal.pop_as-requires-clause-fifo
pop_as-requires-clause-fifo c = λ _. takes _ _ c.self.invariant.1
