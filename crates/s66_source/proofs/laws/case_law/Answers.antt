use Rattle.s66_source.proofs.CaseLaw.{either_case}
use Rattle.s66_source.proofs.laws.case_law.Goals as goal

pub returns : goal.returns
returns c = either_case
