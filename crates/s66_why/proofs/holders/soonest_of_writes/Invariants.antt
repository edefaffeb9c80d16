use Rattle.std.proofs.Common.{◌≡◌, drop, map, reverse}
use Rattle.s66_isa.specs.{Write}
use Rattle.s66_why.specs.{nobody, soonest}
use Rattle.s66_why.proofs.holders.soonest_of_writes.Given as goal

abbrev pub invariant-loop-write : goal.invariant-loop-write
invariant-loop-write l = soonest l.best l.time (reverse l.earlier) (map (λ (w : Write). w.reg) (drop l.write-index l.writes)) ≡ soonest nobody l.time (reverse l.earlier) (map (λ (w : Write). w.reg) l.writes)
