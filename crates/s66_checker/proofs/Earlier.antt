-- Which of two lists of numbers is the earlier one.
use Rattle.std.proofs.Common.{ℕ, ◌<◌, ◌≤◌, ◌≡◌, ◌≢◌, ◌⊎◌, ◌==◌, ◌&&◌, ◌||◌, Bool, true, false, true≢false, List, [], ◌∷◌, length, take, get_or, Decides, ltb, refl, sym, inl, inr, arith, zero, suc}
use Rattle.std.proofs.Common.{eqb-true, eq-eqb, ne_eqb, ltb-true, lt-ltb, le-ltb}
use Rattle.std.proofs.lemmas.Bool.Decides.{Decides-and, Decides-or}
use Rattle.s66_model.specs.{IsEarlier}
use Rattle.s66_checker.specs.{is_earlier}

pub is_earlier-Decides : (ns ms : List ℕ) → Decides (is_earlier ns ms) (IsEarlier ns ms)
is_earlier-Decides [] ms = ((λ h. absurd (true≢false (sym h))), λ h. absurd h)
is_earlier-Decides (n ∷ ns) [] = ((λ h. absurd (true≢false (sym h))), λ h. absurd h)
is_earlier-Decides (n ∷ ns) (m ∷ ms) =
    Decides-or (ltb n m) (n == m && is_earlier ns ms) (ltb-true n m, lt-ltb n m)
    (Decides-and (n == m) (is_earlier ns ms) (eqb-true n m, eq-eqb n m) (is_earlier-Decides ns ms))

-- the first place where they differ decides
pub differ-tells : (k : ℕ) (ns ms : List ℕ) → k < length ns → k < length ms → take k ns ≡ take k ms → get_or ns k 0 ≢ get_or ms k 0 → ltb (get_or ns k 0) (get_or ms k 0) ≡ is_earlier ns ms
differ-tells k [] ms within other same differ = absurd (omega (arith, within))
differ-tells k (n ∷ ns) [] within other same differ = absurd (omega (arith, other))
differ-tells zero (n ∷ ns) (m ∷ ms) within other same differ = rw (ne_eqb n m differ) (or_false (ltb n m))
  where
    or_false : (test : Bool) → test ≡ (test || false)
    or_false true = refl
    or_false false = refl
differ-tells (suc k) (n ∷ ns) (m ∷ ms) within other same differ =
    let e : n ≡ m = cc in
    let rest : take k ns ≡ take k ms = cc in
    rw (le-ltb n m (omega (arith, e)), eq-eqb n m e) (differ-tells k ns ms (omega (arith, within)) (omega (arith, other)) rest differ)

-- and if there is none they aren't
pub same-never : (k : ℕ) (ns ms : List ℕ) → (length ns ≤ k) ⊎ (length ms ≤ k) → take k ns ≡ take k ms → false ≡ is_earlier ns ms
same-never k [] ms short same = refl
same-never k (n ∷ ns) [] short same = refl
same-never zero (n ∷ ns) (m ∷ ms) short same = absurd (elim short [ inl h ↦ omega (arith, h) | inr h ↦ omega (arith, h) ])
same-never (suc k) (n ∷ ns) (m ∷ ms) short same =
    let e : n ≡ m = cc in
    let rest : take k ns ≡ take k ms = cc in
    let less : (length ns ≤ k) ⊎ (length ms ≤ k) = elim short [ inl h ↦ inl (omega (arith, h)) | inr h ↦ inr (omega (arith, h)) ] in
    rw (le-ltb n m (omega (arith, e)), eq-eqb n m e) (same-never k ns ms less rest)
