use Rattle.std.proofs.Common.{rules}
use Rattle.s66_pool.proofs.PartSteps.{enters}
use Rattle.s66_pool.proofs.shared_marks.SharedMarks.token.Goals as goal

pub load_new_seat-token-requires : goal.load_new_seat-token-requires
load_new_seat-token-requires c = (search rules, enters _ _ _)
