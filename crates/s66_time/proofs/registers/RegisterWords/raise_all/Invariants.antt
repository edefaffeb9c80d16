use Rattle.std.proofs.Common.{◌≡◌, ◌≤◌, max, take, if◌then◌else◌}
use Rattle.s66_isa.specs.Table.{Reg}
use Rattle.s66_isa.specs.{has_reg, word_of}
use Rattle.s66_time.specs.{put_back}
use Rattle.s66_time.proofs.registers.RegisterWords.raise_all.Given as goal

abbrev pub invariant-loop-position : goal.invariant-loop-position
invariant-loop-position l = record {
  words : (r : Reg) → r.digit ≤ 7 → word_of l.self.words r ≡ max (word_of l.fn.self.words r) (if has_reg r (take l.position l.registers) then l.time else 0);
  saved : put_back (take l.position l.saved) l.self.words ≡ l.fn.self.words;
}
