-- Used by contracts within the crate alone: which numbers depend on one directly, by the lists of what each number needs.
use Rattle.std.specs.Prelude.{ℕ, ◌-◌, ◌≡◌, ◌≤◌, Bool, ◌&&◌, not, List, [], length, map, get_or, filter}
use Rattle.s66_isa.specs.{BLOCK_LIMIT, has, some_of, rising, Set, numbers_in}

-- what n needs
abbrev pub needs_of : List (List ℕ) → ℕ → List ℕ
needs_of all n = get_or all (n - 1) []

-- m needs n, and nothing else that m needs does
abbrev pub is_direct : List (List ℕ) → ℕ → ℕ → Bool
is_direct all n m = has n (needs_of all m) && not (some_of (λ k. has n (needs_of all k)) (needs_of all m))

-- the numbers that need n directly, rising
abbrev pub opens : List (List ℕ) → ℕ → List ℕ
opens all n = filter (is_direct all n) (rising (length all) 1)

-- of each number in turn
abbrev pub all_opens : List (List ℕ) → List (List ℕ)
all_opens all = map (opens all) (rising (length all) 1)

-- the sets have them, and there are no more than a block has numbers
pub record AreOpened (sets : List Set) (all : List (List ℕ)) : Type 0 where
  pub opened : map numbers_in sets ≡ all_opens all
  pub few : length all ≤ BLOCK_LIMIT
