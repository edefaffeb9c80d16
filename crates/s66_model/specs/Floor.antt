-- To be believed: which of the leaves that may stand at a prefix is its floor.
use Rattle.std.specs.Prelude.{ℕ, ◌≡◌, ◌<◌, ◌≤◌, ◌⊎◌, List, [], ◌∷◌}
use Rattle.s66_isa.specs.{kind_number}
use Rattle.s66_model.specs.Timing.{Problem}
use Rattle.s66_model.specs.Leaves.{Leaf, Whole, Chain, Load, Parcels, value, MayStand}

-- the first list comes before the other in a dictionary, or is the same
abbrev pub InDictionaryOrder : List ℕ → List ℕ → Type 0
InDictionaryOrder [] ms = Unit {0}
InDictionaryOrder (n ∷ ns) [] = ⊥
InDictionaryOrder (n ∷ ns) (m ∷ ms) = (n < m) ⊎ ((n ≡ m) × InDictionaryOrder ns ms)

-- C goes before U and U before P; chains go as in a dictionary, and kinds as in the list of copies
abbrev pub rank : Leaf → List ℕ
rank Whole = []
rank (Chain numbers) = 0 ∷ numbers
rank (Load kind) = 1 ∷ kind_number kind ∷ []
rank Parcels = 2 ∷ []

-- chains as in a dictionary: the lowest head, then a chain that ends, then the lowest next number
pub record IsFloor (b : Problem) (prefix : List ℕ) (leaf : Leaf) : Type 0 where
  pub stands : MayStand b prefix leaf
  -- no other leaf that may stand there is greater
  pub greatest : (other : Leaf) → MayStand b prefix other → value b prefix other ≤ value b prefix leaf
  -- and of equal ones it goes first
  pub first : (other : Leaf) → MayStand b prefix other → value b prefix other ≡ value b prefix leaf → InDictionaryOrder (rank leaf) (rank other)
