use Rattle.std.proofs.Common.{◌≡◌, drop}
use Rattle.s66_reasons.specs.{awaited}
use Rattle.s66_reasons.proofs.chain.awaited.Given as goal

abbrev pub invariant-loop-write : goal.invariant-loop-write
invariant-loop-write l = awaited l.wait l.later (drop l.write-index l.writes) ≡ awaited l.wait l.later l.writes
