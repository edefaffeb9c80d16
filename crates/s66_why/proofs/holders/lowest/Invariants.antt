use Rattle.std.proofs.Common.{◌≡◌, take, reverse}
use Rattle.s66_why.specs.{lowest}
use Rattle.s66_why.proofs.holders.lowest.Given as goal

abbrev pub invariant-loop-point : goal.invariant-loop-point
invariant-loop-point l = l.number ≡ lowest l.cause l.time (reverse (take l.point-index l.earlier))
