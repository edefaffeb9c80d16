use Rattle.std.proofs.Common.{drop}
use Rattle.s66_cert.proofs.NodePlaces.{IsOnTheWay}
use Rattle.s66_cert.proofs.indexed_tree.IndexedTree.child_at.Given as goal

abbrev pub invariant-loop-last : goal.invariant-loop-last
invariant-loop-last l = IsOnTheWay l.self l.place l.number (drop l.last-index l.numbers) l.sibling
