use Rattle.std.proofs.Common.{◌≡◌, ◌++◌, length}
use Rattle.s66_cert.specs.{tree_lines}
use Rattle.s66_cert.proofs.printing.push_tree.Given as goal

abbrev pub invariant-loop-line : goal.invariant-loop-line
invariant-loop-line l = l.out.items ++ tree_lines l.lines ≡ l.fn.out.items ++ tree_lines l.fn.lines

abbrev pub decreases-loop-line : goal.decreases-loop-line
decreases-loop-line l = length l.lines
