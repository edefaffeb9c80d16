use Rattle.std.proofs.Common.{◌≡◌, ◌||◌, take}
use Rattle.s66_isa.specs.{some_of, Write, has_reg, same_reg, registers_in}
use Rattle.s66_isa.specs.Table.{Reg}
use Rattle.s66_bound.proofs.cost.used_registers.Given as goal

abbrev pub invariant-loop-write : goal.invariant-loop-write
invariant-loop-write l = (x : Reg) → has_reg x (registers_in l.used) ≡ (has_reg x l.reads || some_of (λ (w : Write). same_reg w.reg x) (take l.write-index l.writes))
