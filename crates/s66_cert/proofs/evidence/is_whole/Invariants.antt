use Rattle.std.proofs.Common.{◌≤◌, ◌+◌, ◌*◌, length}
use Rattle.s66_cert.proofs.WholeTrees.{AreLeft}
use Rattle.s66_cert.proofs.evidence.is_whole.Given as goal

abbrev pub invariant-loop-line : goal.invariant-loop-line
invariant-loop-line l = record {
  left : AreLeft l.tree l.lines l.left l.splits;
  few : l.splits ≤ l.most;
  room : l.left ≤ 128 * l.splits + 1;
}

abbrev pub decreases-loop-line : goal.decreases-loop-line
decreases-loop-line l = length l.lines
