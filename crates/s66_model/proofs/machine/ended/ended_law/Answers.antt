use Rattle.s66_model.proofs.EndedLedgers.{ended-finishes}
use Rattle.s66_model.proofs.machine.ended.ended_law.Goals as goal

pub returns : goal.returns
returns c = ended-finishes
