use Rattle.std.proofs.Common.{◌≡◌, max, drop}
use Rattle.s66_isa.specs.{greatest}
use Rattle.s66_model.specs.{done_of}
use Rattle.s66_checker.proofs.replay.timing.registers_done.Given as goal

abbrev pub invariant-loop-register : goal.invariant-loop-register
invariant-loop-register l = max l.last (greatest (λ r. done_of l.past r) (drop l.register-index l.registers)) ≡ greatest (λ r. done_of l.past r) l.registers
