use Rattle.std.proofs.Common.{◌≡◌, drop}
use Rattle.s66_isa.specs.{some_of, Write, same_reg}
use Rattle.s66_checker.proofs.links.is_written.Given as goal

abbrev pub invariant-loop-write : goal.invariant-loop-write
invariant-loop-write l = some_of (λ (w : Write). same_reg w.reg l.register) (drop l.write-index l.writes) ≡ some_of (λ (w : Write). same_reg w.reg l.register) l.writes
