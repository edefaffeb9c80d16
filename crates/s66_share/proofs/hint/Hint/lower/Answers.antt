use Rattle.std.proofs.Common.{rules}
use Rattle.s66_share.proofs.HintSteps.{lowers}
use Rattle.s66_share.proofs.hint.Hint.lower.Goals as goal

pub fetch_min-requires : goal.fetch_min-requires
fetch_min-requires c = (search rules, search rules, lowers _ _ _ _)
