use Rattle.s66_why.proofs.HazardFound.{hazard-found}
use Rattle.s66_why.proofs.laws.hazard_law.Goals as goal

pub returns : goal.returns
returns c = hazard-found
