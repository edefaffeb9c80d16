use Rattle.std.proofs.Common.{drop}
use Rattle.s66_cert.proofs.PlacedLines.{IsOnTheWay}
use Rattle.s66_cert.proofs.indexed_tree.IndexedTree.child_below.Given as goal

abbrev pub invariant-loop-number : goal.invariant-loop-number
invariant-loop-number l = IsOnTheWay l.self l.here l.place (drop l.number-index l.numbers) l.sibling
