use Rattle.s66_source.proofs.PartsLaw.{parts}
use Rattle.s66_source.proofs.laws.parts_law.Goals as goal

pub returns : goal.returns
returns c = parts
