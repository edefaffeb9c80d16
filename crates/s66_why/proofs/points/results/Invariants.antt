use Rattle.std.proofs.Common.{◌≡◌, take, map, reverse}
use Rattle.s66_model.specs.{result_at}
use Rattle.s66_why.proofs.points.results.Given as goal

abbrev pub invariant-loop-write : goal.invariant-loop-write
invariant-loop-write l = l.results.items ≡ map (result_at (reverse l.earlier) l.start) (take l.write-index l.write-items)
