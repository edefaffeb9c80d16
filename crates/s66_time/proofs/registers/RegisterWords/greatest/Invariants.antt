use Rattle.std.proofs.Common.{ℕ, ◌≡◌, take}
use Rattle.s66_isa.specs.Table.{Reg}
use Rattle.s66_isa.specs.{greatest}
use Rattle.s66_time.specs.{Tells}
use Rattle.s66_time.proofs.registers.RegisterWords.greatest.Given as goal

abbrev pub invariant-loop-register : goal.invariant-loop-register
invariant-loop-register l = (f : Reg → ℕ) → Tells l.self.words f → l.last ≡ greatest f (take l.register-index l.registers)
