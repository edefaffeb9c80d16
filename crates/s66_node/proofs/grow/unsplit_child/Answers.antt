use Rattle.s66_node.specs.{span}
use Rattle.s66_node.proofs.grow.unsplit_child.Goals as goal

pub returns-clause-found : goal.returns-clause-found
returns-clause-found g c = c.unsplit_by_name.ensures.found (span c.args.best.now _) c.in_default.ensures.due
