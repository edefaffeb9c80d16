use Rattle.std.proofs.Common.{ℕ, ◌≡◌, ◌+◌, ◌<◌, get_or, length}
use Rattle.s66_time.specs.{first_unit}
use Rattle.s66_time.proofs.units.UnitWords.clear.Given as goal

-- the words so far are 0, and so is each that was
abbrev pub invariant-loop-copy : goal.invariant-loop-copy
invariant-loop-copy l = record {
  own : (i : ℕ) → i < l.copy → get_or l.self.words (first_unit l.fn.kind + i) 0 ≡ 0;
  others : (j : ℕ) → get_or l.fn.self.words j 0 ≡ 0 → get_or l.self.words j 0 ≡ 0;
  size : length l.self.words ≡ length l.fn.self.words;
}
