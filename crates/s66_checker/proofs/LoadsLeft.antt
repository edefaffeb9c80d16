-- The numbers of a leaf by a load rise, all remain, and so are few.
use Rattle.std.proofs.Common.{ℕ, ◌+◌, ◌≤◌, ◌≡◌, Bool, false, true, true≢false, List, [], ◌∷◌, length, refl, arith, inl, inr, ltb, ltb-true}
use Rattle.std.proofs.lemmas.Bool.{and_parts, and_cases, and_left, and_right}
use Rattle.s66_isa.specs.{Kind, every}
use Rattle.s66_model.specs.{Problem, is_remaining}
use Rattle.s66_model.proofs.Remaining.{remaining-parts}
use Rattle.s66_moments.specs.{Known, are_rising, is_left}

module _ (b : Problem) (prefix : List ℕ) where
  abbrev remains : ℕ → Bool
  remains = is_remaining b.block prefix

  -- from the first on
  rising-room : (n : ℕ) (ns : List ℕ) → are_rising (n ∷ ns) ≡ true → every remains (n ∷ ns) ≡ true → n + length ns ≤ length b.block
  rising-room n [] rises remain =
      let (here, rest) = and_parts (remains n) true remain in
      let (low, high, new) = remaining-parts b.block prefix n here in
      omega (arith, high)
  rising-room n (m ∷ ns) rises remain =
      let (less, on) = and_parts (ltb n m) (are_rising (m ∷ ns)) rises in
      let (here, rest) = and_parts (remains n) (every remains (m ∷ ns)) remain in
      omega (arith, ltb-true n m less, rising-room m ns on rest)

  pub rising-few : (ns : List ℕ) → are_rising ns ≡ true → every remains ns ≡ true → length ns ≤ length b.block
  rising-few [] rises remain = omega arith
  rising-few (n ∷ ns) rises remain =
      let (here, rest) = and_parts (remains n) (every remains ns) remain in
      let (low, high, new) = remaining-parts b.block prefix n here in
      omega (arith, low, rising-room n ns rises remain)

  pub gone : (known : Known) (kind : Kind) (bound after time : ℕ) (ns : List ℕ) → every remains ns ≡ false → every (is_left b known prefix kind bound after time) ns ≡ false
  gone known kind bound after time [] off = absurd (true≢false off)
  gone known kind bound after time (n ∷ ns) off =
      elim (and_cases (remains n) (every remains ns) off) [
        | inl first ↦ and_left (is_left b known prefix kind bound after time n) (every (is_left b known prefix kind bound after time) ns) (rw first refl)
        | inr rest ↦ and_right (is_left b known prefix kind bound after time n) (every (is_left b known prefix kind bound after time) ns) (gone known kind bound after time ns rest)
      ]
