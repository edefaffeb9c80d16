use Rattle.s66_source.proofs.CutLaw.{no-operand}
use Rattle.s66_source.proofs.laws.cut_law.Goals as goal

pub returns : goal.returns
returns c = no-operand
