use Rattle.std.proofs.Common.{length}
use Rattle.s66_time.specs.{AreUpTo}
use Rattle.s66_deep.proofs.classes.those_of.Given as goal

abbrev pub invariant-loop-place : goal.invariant-loop-place
invariant-loop-place l = AreUpTo (length l.rows) l.those
