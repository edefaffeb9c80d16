use Rattle.std.proofs.Common.{◌≡◌, ◌||◌, not, drop}
use Rattle.s66_isa.specs.{every, Write}
use Rattle.s66_moments.specs.{writes}
use Rattle.s66_facts.specs.{uses, hands_on}
use Rattle.s66_facts.proofs.near.hands_on.Given as goal

abbrev pub invariant-loop-write : goal.invariant-loop-write
invariant-loop-write l = every (λ (w : Write). not (uses l.second w.reg) || writes l.between w.reg) (drop l.write-index l.first.writes) ≡ hands_on l.first l.between l.second
