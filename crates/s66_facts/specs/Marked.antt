-- Used by contracts: which number stands before which, by a set for each number.
use Rattle.std.specs.Prelude.{ℕ, ◌-◌, ◌≡◌, ◌≤◌, ◌&&◌, Bool, List, length, get_or, nat_le}
use Rattle.s66_isa.specs.{Instr, Set, has, numbers_in, no_set}
use Rattle.s66_moments.specs.{precedes}

-- a number of the block
abbrev pub is_in : List Set → ℕ → Bool
is_in marks n = nat_le 1 n && nat_le n (length marks)

-- those of each number are the numbers that stand before it
abbrev pub before_in : List Set → ℕ → ℕ → Bool
before_in marks m n = is_in marks m && is_in marks n && has m (numbers_in (get_or marks (n - 1) no_set))

-- the marks of the first numbers are those that stand before them by dependence
abbrev pub IsClosedUpTo : List Instr → List Set → ℕ → Type 0
IsClosedUpTo block marks count =
    (k m : ℕ) → 1 ≤ k → k ≤ count → 1 ≤ m → has m (numbers_in (get_or marks (k - 1) no_set)) ≡ precedes block m k
