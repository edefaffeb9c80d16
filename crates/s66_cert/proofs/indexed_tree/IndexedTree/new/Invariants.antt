use Rattle.std.proofs.Common.{◌≤◌, length}
use Rattle.s66_cert.specs.{AreTreeEnds}
use Rattle.s66_cert.proofs.indexed_tree.IndexedTree.new.Given as goal

-- the ends of the lines from here on are known
abbrev pub invariant-loop-place : goal.invariant-loop-place
invariant-loop-place l = record {
  known : AreTreeEnds l.place l.ends.items l.lines;
  within : l.place ≤ length l.lines;
}

abbrev pub decreases-loop-place : goal.decreases-loop-place
decreases-loop-place l = l.place
