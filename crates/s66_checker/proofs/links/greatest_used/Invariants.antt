use Rattle.std.proofs.Common.{◌≡◌, if◌then◌else◌, max, drop}
use Rattle.s66_isa.specs.{greatest, Write}
use Rattle.s66_model.specs.{uses}
use Rattle.s66_checker.proofs.links.greatest_used.Given as goal

abbrev pub invariant-loop-write : goal.invariant-loop-write
invariant-loop-write l = max l.most (greatest (λ (w : Write). if uses l.later w.reg then w.latency else 0) (drop l.write-index l.writes)) ≡ greatest (λ (w : Write). if uses l.later w.reg then w.latency else 0) l.writes
