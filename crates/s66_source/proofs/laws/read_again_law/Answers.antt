use Rattle.s66_source.proofs.SourceAgain.{read-again}
use Rattle.s66_source.proofs.laws.read_again_law.Goals as goal

pub returns : goal.returns
returns c = read-again
