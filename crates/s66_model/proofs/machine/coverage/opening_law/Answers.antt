use Rattle.s66_model.proofs.LedgerSteps.{opening-covers}
use Rattle.s66_model.proofs.machine.coverage.opening_law.Goals as goal

pub returns : goal.returns
returns c = opening-covers
