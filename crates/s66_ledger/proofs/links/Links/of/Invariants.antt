use Rattle.s66_ledger.specs.{AreLinks}
use Rattle.s66_ledger.proofs.links.Links.of.Given as goal

abbrev pub invariant-loop-node : goal.invariant-loop-node
invariant-loop-node l = AreLinks l.nodes l.last.items l.before.items l.node
