use Rattle.s66_ledger.proofs.Chained.{IsAtOrPast}
use Rattle.s66_ledger.proofs.links.Links.child.Given as goal

abbrev pub invariant-loop-child : goal.invariant-loop-child
invariant-loop-child l = IsAtOrPast l.nodes l.parent l.number l.child

abbrev pub decreases-loop-child : goal.decreases-loop-child
decreases-loop-child l = l.child
