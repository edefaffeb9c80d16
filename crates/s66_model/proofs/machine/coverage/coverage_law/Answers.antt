use Rattle.s66_model.proofs.LedgerRuns.{history-covers, run-falls}
use Rattle.s66_model.proofs.Histories.{run-each}
use Rattle.s66_model.proofs.machine.coverage.coverage_law.Goals as goal

pub returns : goal.returns
returns c = record { covers = history-covers; after_each = run-each; never_rises = run-falls }
