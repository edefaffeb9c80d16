use Rattle.std.proofs.Common.{◌≡◌, drop}
use Rattle.s66_compare.specs.{first_difference}
use Rattle.s66_compare.proofs.difference.first_difference.Given as goal

abbrev pub invariant-loop-place : goal.invariant-loop-place
invariant-loop-place l = first_difference (drop l.place l.old) (drop l.place l.new) ≡ first_difference l.old l.new
