-- Used by contracts within the crate alone: numbers whose words are less than those of others; the word of n is at place n - 1.
use Rattle.std.specs.Prelude.{ℕ, ◌-◌, ◌≡◌, ◌≤◌, true, List, get_or}
use Rattle.s66_isa.specs.{has, Set, numbers_in}

-- of the numbers from 1 to a count, none has a lesser word than one of the set
abbrev pub AreEnds : List ℕ → ℕ → Set → Type 0
AreEnds words count set = (n m : ℕ) → has n (numbers_in set) ≡ true → 1 ≤ m → m ≤ count → get_or words (n - 1) 0 ≤ get_or words (m - 1) 0
