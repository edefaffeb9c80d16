use Rattle.std.proofs.Common.{◌≡◌, map, take}
use Rattle.s66_model.specs.{result_at}
use Rattle.s66_checker.proofs.replay.timing.results.Given as goal

abbrev pub invariant-loop-write : goal.invariant-loop-write
invariant-loop-write l = l.results.items ≡ map (result_at l.past l.start) (take l.write-index l.writes)
