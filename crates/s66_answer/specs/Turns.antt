-- Used by contracts: what workers make for the numbers of a task, and what is put in their places.
use Rattle.std.specs.Prelude.{ℕ, ◌<◌, List, Option, IfSome, length, slice_index_or}

-- each has what is made for its number
abbrev pub AreMade : {T : Type 0} → (ℕ → T → Type 0) → List T → Type 0
AreMade gives made = (i : ℕ) (d : _) → i < length made → gives i (slice_index_or made i d)

-- what is in a place is made for its number
abbrev pub ArePut : {T : Type 0} → (ℕ → T → Type 0) → List (Option T) → Type 0
ArePut gives places = (i : ℕ) (d : Option _) → i < length places → IfSome (slice_index_or places i d) (gives i)
