use Rattle.s66_share.proofs.LaneMoves.{collects, counts}
use Rattle.s66_share.proofs.lanes.owner.Lane.take_back.Goals as goal

pub absorb-requires-clause-rule : goal.absorb-requires-clause-rule
absorb-requires-clause-rule c = collects _ _ _ _ c.self.invariant.1

pub len_as-tickets-requires : goal.len_as-tickets-requires
len_as-tickets-requires c = counts _ _
