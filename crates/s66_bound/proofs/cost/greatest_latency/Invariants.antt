use Rattle.std.proofs.Common.{◌≡◌, take}
use Rattle.s66_isa.specs.{greatest, Write}
use Rattle.s66_bound.proofs.cost.greatest_latency.Given as goal

abbrev pub invariant-loop-write : goal.invariant-loop-write
invariant-loop-write l = l.last ≡ greatest (λ (w : Write). w.latency) (take l.write-index l.writes)
