use Rattle.s66_moments.proofs.LoadArcs.{load-arc}
use Rattle.s66_moments.proofs.facts.load_arc_law.Goals as goal

pub returns : goal.returns
returns c = load-arc
