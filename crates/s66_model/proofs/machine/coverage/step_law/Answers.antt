use Rattle.s66_model.proofs.LedgerRuns.{step-covers, step-falls}
use Rattle.s66_model.proofs.machine.coverage.step_law.Goals as goal

pub returns : goal.returns
returns c = record { covers = step-covers; never_rises = step-falls }
