use Rattle.std.proofs.Common.{arith}
use Rattle.s66_share.proofs.LaneMoves.{takes}
use Rattle.s66_share.proofs.lanes.thief.Thief.steal.Goals as goal

pub steal_as-requires-clause-takes : goal.steal_as-requires-clause-takes
steal_as-requires-clause-takes c = takes _ _ (let one = c.pass.invariant.2 in omega arith)
