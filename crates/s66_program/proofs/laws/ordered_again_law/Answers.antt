use Rattle.s66_program.proofs.OrderedAgain.{ordered-again}
use Rattle.s66_program.proofs.laws.ordered_again_law.Goals as goal

pub returns : goal.returns
returns c = ordered-again
