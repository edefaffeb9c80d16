use Rattle.std.proofs.Common.{◌≡◌, drop}
use Rattle.s66_reasons.specs.{lasting}
use Rattle.s66_reasons.proofs.chain.lasting.Given as goal

abbrev pub invariant-loop-write : goal.invariant-loop-write
invariant-loop-write l = lasting l.time (drop l.write-index l.writes) ≡ lasting l.time l.writes
