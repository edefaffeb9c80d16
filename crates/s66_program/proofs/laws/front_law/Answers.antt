use Rattle.s66_program.proofs.Fronts.{front-refused}
use Rattle.s66_program.proofs.laws.front_law.Goals as goal

pub returns : goal.returns
returns c = front-refused
