use Rattle.std.proofs.Common.{rules}
use Rattle.s66_share.proofs.HintSteps.{copies, opens}
use Rattle.s66_share.proofs.hint.Hint.new.Goals as goal

pub of_words-requires : goal.of_words-requires
of_words-requires c = opens _

pub split_seat-token-requires : goal.split_seat-token-requires
split_seat-token-requires c = (search rules, search rules, copies _ _)
