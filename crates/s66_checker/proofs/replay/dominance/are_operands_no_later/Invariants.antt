use Rattle.std.proofs.Common.{◌≡◌, max, leb, drop}
use Rattle.s66_isa.specs.{every}
use Rattle.s66_model.specs.{done_of}
use Rattle.s66_checker.specs.{are_operands_no_later}
use Rattle.s66_checker.proofs.replay.dominance.are_operands_no_later.Given as goal

-- all depends on the registers that are left
abbrev pub invariant-loop-register : goal.invariant-loop-register
invariant-loop-register l =
    every (λ x. leb (done_of l.own x) (max (done_of l.other x) l.start)) (drop l.register-index l.reads) ≡ are_operands_no_later l.start l.own l.other l.reads
