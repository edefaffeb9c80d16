use Rattle.s66_compare.proofs.Accepted.{keeps-source}
use Rattle.s66_compare.proofs.laws.same_meaning_law.Goals as goal

pub returns : goal.returns
returns c = keeps-source
