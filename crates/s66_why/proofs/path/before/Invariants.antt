use Rattle.std.proofs.Common.{◌≡◌, drop, reverse}
use Rattle.s66_why.specs.{before}
use Rattle.s66_why.proofs.path.before.Given as goal

abbrev pub invariant-loop-write : goal.invariant-loop-write
invariant-loop-write l = before l.cause (reverse l.earlier) l.point (drop l.write-index l.write-items) ≡ before l.cause (reverse l.earlier) l.point l.point.row.writes
