use Rattle.std.proofs.Common.{◌≡◌, take}
use Rattle.s66_isa.specs.Table.{Reg}
use Rattle.s66_isa.specs.{has_reg, registers_in}
use Rattle.s66_isa.proofs.registers.Registers.of.Given as goal

abbrev pub invariant-loop-register : goal.invariant-loop-register
invariant-loop-register l = (r : Reg) → has_reg r (registers_in l.set) ≡ has_reg r (take l.register-index l.registers)
