use Rattle.std.proofs.Common.{ℕ, ◌≡◌, ◌+◌, ◌<◌, get_or, length}
use Rattle.s66_isa.specs.{copies_of, kind_number, Kind}
use Rattle.s66_time.specs.{first_unit}
use Rattle.s66_time.proofs.units.UnitWords.clear_all.Given as goal

-- the words of the kinds so far are 0
abbrev pub invariant-loop-kind : goal.invariant-loop-kind
invariant-loop-kind l = record {
  zeros : (kind : Kind) (i : ℕ) → kind_number kind < l.kind-index → i < copies_of l.fn.profile kind → get_or l.self.words (first_unit kind + i) 0 ≡ 0;
  size : length l.self.words ≡ length l.fn.self.words;
}
