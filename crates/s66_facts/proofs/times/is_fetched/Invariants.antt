use Rattle.std.proofs.Common.{◌≡◌, ◌&&◌, not, drop}
use Rattle.s66_isa.specs.{some_of, Write, same_reg}
use Rattle.s66_facts.proofs.times.is_fetched.Given as goal

abbrev pub invariant-loop-write : goal.invariant-loop-write
invariant-loop-write l =
    some_of (λ (w : Write). same_reg w.reg l.register && not w.held) (drop l.write-index l.results)
    ≡ some_of (λ (w : Write). same_reg w.reg l.register && not w.held) l.results
