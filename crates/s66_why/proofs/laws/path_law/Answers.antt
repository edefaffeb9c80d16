use Rattle.s66_why.proofs.Paths.{path-adds_up}
use Rattle.s66_why.proofs.laws.path_law.Goals as goal

pub returns : goal.returns
returns c = path-adds_up
