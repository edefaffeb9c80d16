-- Used by contracts: what keeps the bounds safe: no sum is too great for a word, and each number has its ranks. Which values the bounds
-- have is tested.
use Rattle.std.specs.Prelude.{ℕ, ◌≤◌, List, get_or}
use Rattle.s66_time.specs.{AreUpTo, IsRanking, AreAtMost}
use Rattle.s66_deep.specs.declared.limits.TheConstants.{TAIL_LIMIT}
use Rattle.s66_deep.specs.declared.floors.tables.PathTables.{PathTables}
use Rattle.s66_deep.specs.declared.floors.tails.Tails.{Tails}

-- what a read past the end of a table gives
abbrev pub no_tails : Tails
no_tails = record { issue = 0; start = 0; first = 0; second = 0; free = 0 }

pub record IsSmall (t : Tails) : Type 0 where
  pub issue : t.issue ≤ TAIL_LIMIT
  pub start : t.start ≤ TAIL_LIMIT
  pub first : t.first ≤ TAIL_LIMIT
  pub second : t.second ≤ TAIL_LIMIT

abbrev pub AreSmall : List Tails → Type 0
AreSmall tails = (i : ℕ) → IsSmall (get_or tails i no_tails)

abbrev pub AreSmallWords : List ℕ → Type 0
AreSmallWords words = (i : ℕ) → get_or words i 0 ≤ TAIL_LIMIT

-- so that no sum with a time of an order is too great for a word
pub record HasSmallWords (t : PathTables) : Type 0 where
  pub tails : AreSmall t.tails
  pub first : AreSmallWords t.first
  pub second : AreSmallWords t.second
  pub by_issue : AreAtMost TAIL_LIMIT t.by_issue
  pub by_start : AreAtMost TAIL_LIMIT t.by_start

-- the numbers from 1 to the count have ranks by issue and by start
pub record HasRanks (count : ℕ) (t : PathTables) : Type 0 where
  pub all : AreUpTo count t.all
  pub by_issue : (word : ℕ → ℕ) × IsRanking word count t.by_issue
  pub by_start : (word : ℕ → ℕ) × IsRanking word count t.by_start
