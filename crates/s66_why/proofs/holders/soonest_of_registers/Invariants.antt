use Rattle.std.proofs.Common.{◌≡◌, drop, reverse}
use Rattle.s66_why.specs.{nobody, soonest}
use Rattle.s66_why.proofs.holders.soonest_of_registers.Given as goal

abbrev pub invariant-loop-register : goal.invariant-loop-register
invariant-loop-register l = soonest l.best l.time (reverse l.earlier) (drop l.register-index l.registers) ≡ soonest nobody l.time (reverse l.earlier) l.registers
