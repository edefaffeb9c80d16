use Rattle.s66_model.proofs.EndedLedgers.{covers-bound}
use Rattle.s66_model.proofs.machine.coverage.ledger_bound_law.Goals as goal

pub returns : goal.returns
returns c = covers-bound
