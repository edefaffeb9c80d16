-- Used by contracts: which of the numbers that stand before one, or after it, decide its times: each other one has what is asked of it handed on by one between.
use Rattle.std.specs.Prelude.{ℕ, ◌-◌, ◌≡◌, ◌⊎◌, Bool, true, not, ◌||◌, ◌&&◌, List, length, map, get_or}
use Rattle.s66_isa.specs.{Instr, Profile, Reg, every, Row, row, Write, same_kind, has_reg, memory_pair, Set, has, numbers_in, no_set}
use Rattle.s66_model.specs.{Problem, row_at}
use Rattle.s66_moments.specs.{KnownArc, writes, IsNumber}
use Rattle.s66_facts.specs.Marked.{before_in}
use Rattle.s66_facts.specs.BlockGround.{IsAcyclic}
use Rattle.s66_facts.specs.Passes.{share_unit}

abbrev pub uses : Row → Reg → Bool
uses r x = writes r x || has_reg x r.reads

-- k writes each register that m writes and n uses
abbrev pub hands_on : Row → Row → Row → Bool
hands_on m k n = every (λ (w : Write). not (uses n w.reg) || writes k w.reg) m.writes

-- what one of m and n waits for of the other, it waits for of k too, which stands between
abbrev pub covers : Problem → ℕ → ℕ → ℕ → Bool
covers b m k n =
    hands_on (row_at b m) (row_at b k) (row_at b n) && hands_on (row_at b n) (row_at b k) (row_at b m)
    && (not (share_unit b m n) || same_kind (row_at b k).kind (row_at b n).kind)
    && (not (memory_pair (row_at b m).memory (row_at b n).memory)
    || memory_pair (row_at b m).memory (row_at b k).memory && memory_pair (row_at b k).memory (row_at b n).memory)

-- by one that is marked
abbrev pub IsCovered : Problem → (ℕ → ℕ → Bool) → Set → ℕ → ℕ → Type 0
IsCovered b before near m n = (k : ℕ) × IsNumber b k × (has k (numbers_in near) ≡ true) × (before m k ≡ true) × (covers b m k n ≡ true)

-- those that are marked stand before n, and cover all others that do
pub record IsNear (b : Problem) (before : ℕ → ℕ → Bool) (near : Set) (n : ℕ) : Type 0 where
  pub within : (m : ℕ) → has m (numbers_in near) ≡ true → before m n ≡ true
  pub enough : (m : ℕ) → IsNumber b m → before m n ≡ true → (has m (numbers_in near) ≡ true) ⊎ IsCovered b before near m n

-- of each number
pub record AreNear (b : Problem) (sooner near : List Set) : Type 0 where
  pub count : length near ≡ length b.block
  pub each : (n : ℕ) → IsNumber b n → IsNear b (before_in sooner) (get_or near (n - 1) no_set) n

-- as it is kept, with the rows of the instructions, the numbers that stand after each, and those that decide the times of each
pub record IsKept (block : List Instr) (profile : Profile) (rows : List Row) (marks later marks_near later_near : List Set) (loads : List KnownArc) : Type 0 where
  pub ordered : IsAcyclic (record { problem = record { block = block; profile = profile }; marks = marks; loads = loads })
  pub known_rows : rows ≡ map (row profile) block
  pub count : length later ≡ length block
  pub turned : (m n : ℕ) → before_in later n m ≡ before_in marks m n
  pub near_before : AreNear (record { block = block; profile = profile }) marks marks_near
  pub near_after : AreNear (record { block = block; profile = profile }) later later_near
