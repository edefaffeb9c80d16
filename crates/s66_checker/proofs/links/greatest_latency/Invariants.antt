use Rattle.std.proofs.Common.{◌≡◌, max, drop}
use Rattle.s66_isa.specs.{greatest, Write}
use Rattle.s66_checker.proofs.links.greatest_latency.Given as goal

abbrev pub invariant-loop-write : goal.invariant-loop-write
invariant-loop-write l = max l.most (greatest (λ (w : Write). w.latency) (drop l.write-index l.writes)) ≡ greatest (λ (w : Write). w.latency) l.writes
