-- Used by contracts: what a mark is, of a beginning of a problem's legal orders. What `Clock::mark` gives, `dominates` takes: what is in it need not be known.
use Rattle.std.specs.Prelude.{ℕ, ◌+◌, ◌≡◌, ◌≤◌, ◌<◌, List, length, get_or}
use Rattle.s66_isa.specs.{index_of, Kind, BLOCK_LIMIT}
use Rattle.s66_isa.specs.Table.{Reg}
use Rattle.s66_model.specs.{Problem, points_of, next, total_of, done_of, readers_wait, place_in_word, references_wait, stores_wait, free_times, IsBeginning, HaveDigits}
use Rattle.s66_time.specs.KeptUnits.{kept_of, first_kept, word_count}
use Rattle.s66_time.specs.declared.limits.TheConstants.{READERS_AT, REFERENCES_AT, STORES_AT}
use Rattle.s66_time.specs.declared.mark.Mark.{Mark}

-- each word is what the timing names, of the points of these numbers
pub record IsMarkOf (b : Problem) (numbers : List ℕ) (m : Mark) : Type 0 where
  pub begins : IsBeginning b.block numbers
  pub few : length b.block ≤ BLOCK_LIMIT
  pub digits : HaveDigits b.block
  pub next : m.next ≡ next (points_of b numbers)
  pub total : m.total ≡ total_of b numbers
  pub phase : m.place ≡ place_in_word (points_of b numbers)
  pub count : m.count ≡ word_count (kept_of b)
  pub writers : (r : Reg) → r.digit ≤ 7 → get_or m.words.words (index_of r) 0 ≡ done_of (points_of b numbers) r
  pub readers : (r : Reg) → r.digit ≤ 7 → get_or m.words.words (READERS_AT + index_of r) 0 ≡ readers_wait (points_of b numbers) r
  pub references : get_or m.words.words REFERENCES_AT 0 ≡ references_wait (points_of b numbers)
  pub stores : get_or m.words.words STORES_AT 0 ≡ stores_wait (points_of b numbers)
  -- the latest first
  pub units : (kind : Kind) (i : ℕ) → i < kept_of b kind → get_or m.words.words (first_kept (kept_of b) kind + i) 0 ≡ get_or (free_times kind (points_of b numbers)) i 0
