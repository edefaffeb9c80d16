use Rattle.s66_why.proofs.Forbidden.{all-forbidden}
use Rattle.s66_why.proofs.laws.cause_law.Goals as goal

pub returns : goal.returns
returns c = all-forbidden
