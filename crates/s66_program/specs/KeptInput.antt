-- Used by contracts: what reading an input to its end keeps of it.
use Rattle.std.specs.Prelude.{◌≡◌, ◌⊎◌, ◌≤◌, ℕ, List, [], ◌++◌, Option, None, Some, length}

-- no more need be kept
abbrev pub IsFull : Option ℕ → List ℕ → Type 0
IsFull None held = ⊥
IsFull (Some most) held = most ≤ length held

-- of an input this is kept: all of it, or a front that is full
abbrev pub IsKeptInput : Option ℕ → (input held : List ℕ) → Type 0
IsKeptInput most input held = (rest : List ℕ) × (input ≡ held ++ rest) × ((rest ≡ []) ⊎ IsFull most held)

-- more bytes were put to what is kept, or that is full
abbrev pub Puts : Option ℕ → (bytes old new : List ℕ) → Type 0
Puts most bytes old new = ((IsFull most old → ⊥) × (new ≡ old ++ bytes)) ⊎ (IsFull most old × (new ≡ old))
