use Rattle.std.proofs.Common.{◌≡◌, ◌++◌, map, drop}
use Rattle.s66_isa.specs.Table.{Reg}
use Rattle.s66_why.specs.{Register, common}
use Rattle.s66_why.proofs.hazard.push_common.Given as goal

abbrev pub invariant-loop-register : goal.invariant-loop-register
invariant-loop-register l =
    l.out.items ++ map (λ (r : Reg). record { place = Register r; access = l.access }) (common (drop l.register-index l.registers) l.others)
    ≡ l.fn.out.items ++ map (λ (r : Reg). record { place = Register r; access = l.access }) (common l.registers l.others)
