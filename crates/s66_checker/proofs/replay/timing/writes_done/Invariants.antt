use Rattle.std.proofs.Common.{◌≡◌, max, drop}
use Rattle.s66_isa.specs.{greatest, Write}
use Rattle.s66_model.specs.{done_of}
use Rattle.s66_checker.proofs.replay.timing.writes_done.Given as goal

abbrev pub invariant-loop-write : goal.invariant-loop-write
invariant-loop-write l = max l.last (greatest (λ (w : Write). done_of l.past w.reg) (drop l.write-index l.writes)) ≡ greatest (λ (w : Write). done_of l.past w.reg) l.writes
