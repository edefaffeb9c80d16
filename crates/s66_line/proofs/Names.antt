-- A word that is too short or too long for the name of an operation, or for `NO`, is none.
use Rattle.std.proofs.Common.{◌≡◌, ◌≤◌, ◌<◌, ℕ, false, List, ◌∷◌, length, None, refl, arith}
use Rattle.s66_line.specs.{upper, operation_of, is_pad}

pub is_pad_short : (word : List ℕ) → length word < 2 → false ≡ is_pad (upper word)
is_pad_short (n ∷ o ∷ more) h = absurd (omega (arith, h))
is_pad_short other h = refl

pub is_pad_long : (word : List ℕ) → 3 ≤ length word → false ≡ is_pad (upper word)
is_pad_long (n ∷ o ∷ p ∷ more) h = refl
is_pad_long other h = absurd (omega (arith, h))

pub operation_of_short : (word : List ℕ) → length word < 3 → None ≡ operation_of (upper word)
operation_of_short (p ∷ q ∷ d ∷ more) h = absurd (omega (arith, h))
operation_of_short other h = refl

pub operation_of_long : (word : List ℕ) → 4 ≤ length word → None ≡ operation_of (upper word)
operation_of_long (p ∷ q ∷ d ∷ e ∷ more) h = refl
operation_of_long other h = absurd (omega (arith, h))
