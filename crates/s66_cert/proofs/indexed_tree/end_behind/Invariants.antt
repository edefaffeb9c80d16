use Rattle.std.proofs.Common.{◌≡◌}
use Rattle.s66_cert.specs.{end_behind}
use Rattle.s66_cert.proofs.indexed_tree.end_behind.Given as goal

abbrev pub decreases-loop-left : goal.decreases-loop-left
decreases-loop-left l = l.left

-- from the end so far, as many trees as are left
abbrev pub invariant-loop-left : goal.invariant-loop-left
invariant-loop-left l = end_behind l.ends l.left l.end ≡ end_behind l.ends l.count l.place
