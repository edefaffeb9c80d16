use Rattle.std.proofs.Common.{◌-◌}
use Rattle.s66_cert.proofs.PlacedLines.{IsUnder}
use Rattle.s66_cert.proofs.indexed_tree.IndexedTree.line_at.Given as goal

abbrev pub invariant-loop-here : goal.invariant-loop-here
invariant-loop-here l = IsUnder l.self l.place l.here l.path.items

abbrev pub decreases-loop-here : goal.decreases-loop-here
decreases-loop-here l = l.place - l.here
