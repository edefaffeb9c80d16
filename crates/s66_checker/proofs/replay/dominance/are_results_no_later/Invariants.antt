use Rattle.std.proofs.Common.{◌≡◌, max, leb, drop}
use Rattle.s66_isa.specs.{every, Write}
use Rattle.s66_model.specs.{done_of}
use Rattle.s66_checker.specs.{are_results_no_later}
use Rattle.s66_checker.proofs.replay.dominance.are_results_no_later.Given as goal

-- all depends on the writes that are left
abbrev pub invariant-loop-write : goal.invariant-loop-write
invariant-loop-write l =
    every (λ (w : Write). leb (done_of l.own w.reg) (max (done_of l.other w.reg) l.issue)) (drop l.write-index l.writes) ≡ are_results_no_later l.issue l.own l.other l.writes
