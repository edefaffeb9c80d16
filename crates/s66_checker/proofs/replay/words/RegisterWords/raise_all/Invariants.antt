use Rattle.std.proofs.Common.{◌≡◌, ◌≤◌, if◌then◌else◌, max, drop}
use Rattle.s66_isa.specs.Table.{Reg}
use Rattle.s66_isa.specs.{has_reg, word_of}
use Rattle.s66_checker.proofs.replay.words.RegisterWords.raise_all.Given as goal

abbrev pub invariant-loop-register : goal.invariant-loop-register
invariant-loop-register l =
    (r : Reg) → r.digit ≤ 7 → max (word_of l.self.words r) (if has_reg r (drop l.register-index l.registers) then l.time else 0) ≡ max (word_of l.fn.self.words r) (if has_reg r l.registers then l.time else 0)
