-- The order of a dictionary: each list is no later than itself, it passes on, and of two lists one is later.
use Rattle.std.proofs.Common.{ℕ, ◌≡◌, List, [], ◌∷◌, refl, ap₂, arith, inl, inr}
use Rattle.s66_model.specs.{InDictionaryOrder}

pub IsNoLater-itself : (ns : List ℕ) → InDictionaryOrder ns ns
IsNoLater-itself [] = tt
IsNoLater-itself (n ∷ ns) = inr (refl, IsNoLater-itself ns)

pub IsNoLater-through : (ks ms ns : List ℕ) → InDictionaryOrder ks ms → InDictionaryOrder ms ns → InDictionaryOrder ks ns
IsNoLater-through [] ms ns h1 h2 = tt
IsNoLater-through (k ∷ ks) [] ns h1 h2 = absurd h1
IsNoLater-through (k ∷ ks) (m ∷ ms) [] h1 h2 = absurd h2
IsNoLater-through (k ∷ ks) (m ∷ ms) (n ∷ ns) h1 h2 =
    elim h1 [
      | inl below ↦
          elim h2 [
            | inl further ↦ inl (omega (arith, below, further))
            | inr same ↦ inl (omega (arith, below, same.0))
          ]
      | inr same ↦
          elim h2 [
            | inl below ↦ inl (omega (arith, same.0, below))
            | inr again ↦ inr (omega (arith, same.0, again.0), IsNoLater-through ks ms ns same.1 again.1)
          ]
    ]

-- lists of which neither is later are one
pub IsNoLater-both : (ms ns : List ℕ) → InDictionaryOrder ms ns → InDictionaryOrder ns ms → ms ≡ ns
IsNoLater-both [] [] h1 h2 = refl
IsNoLater-both [] (n ∷ ns) h1 h2 = absurd h2
IsNoLater-both (m ∷ ms) [] h1 h2 = absurd h1
IsNoLater-both (m ∷ ms) (n ∷ ns) h1 h2 =
    elim h1 [
      | inl below ↦
          elim h2 [
            | inl above ↦ absurd (omega (arith, below, above))
            | inr same ↦ absurd (omega (arith, below, same.0))
          ]
      | inr same ↦
          elim h2 [
            | inl above ↦ absurd (omega (arith, same.0, above))
            | inr again ↦ ap₂ (λ x xs. x ∷ xs) same.0 (IsNoLater-both ms ns same.1 again.1)
          ]
    ]
