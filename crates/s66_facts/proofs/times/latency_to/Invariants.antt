use Rattle.std.proofs.Common.{◌≡◌, cond, max, drop, ℕ}
use Rattle.s66_isa.specs.{greatest, Write, same_reg}
use Rattle.s66_facts.proofs.times.latency_to.Given as goal

abbrev pub invariant-loop-write : goal.invariant-loop-write
invariant-loop-write l =
    max l.latency (greatest (λ (w : Write). cond {A = ℕ} (same_reg w.reg l.register) w.latency 0) (drop l.write-index l.results))
    ≡ greatest (λ (w : Write). cond {A = ℕ} (same_reg w.reg l.register) w.latency 0) l.results
