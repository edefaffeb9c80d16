use Rattle.s66_model.proofs.Growth.{total-le}
use Rattle.s66_model.proofs.timing.total_law.Goals as goal

pub returns : goal.returns
returns c = total-le
