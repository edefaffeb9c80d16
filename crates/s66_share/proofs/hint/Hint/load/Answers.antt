use Rattle.std.proofs.Common.{rules}
use Rattle.s66_share.proofs.HintSteps.{reads}
use Rattle.s66_share.proofs.hint.Hint.load.Goals as goal

pub load-requires : goal.load-requires
load-requires c = (search rules, search rules, reads _ _ _)
