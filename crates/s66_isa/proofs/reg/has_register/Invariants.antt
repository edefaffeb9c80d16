use Rattle.std.proofs.Common.{◌≡◌, drop}
use Rattle.s66_isa.specs.{has_reg}
use Rattle.s66_isa.proofs.reg.has_register.Given as goal

abbrev pub invariant-loop-other : goal.invariant-loop-other
invariant-loop-other l = has_reg l.register (drop l.other-index l.registers) ≡ has_reg l.register l.registers
