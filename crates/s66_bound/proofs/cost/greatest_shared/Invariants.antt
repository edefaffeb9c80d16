use Rattle.std.proofs.Common.{◌≡◌, if◌then◌else◌, take}
use Rattle.s66_isa.specs.{greatest, Write, has_reg, registers_in}
use Rattle.s66_bound.proofs.cost.greatest_shared.Given as goal

abbrev pub invariant-loop-write : goal.invariant-loop-write
invariant-loop-write l = l.last ≡ greatest (λ (w : Write). if has_reg w.reg (registers_in l.used) then w.latency else 0) (take l.write-index l.writes)
