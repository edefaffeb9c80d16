-- The numbers of the least spare, as a set that is made number by number.
use Rattle.std.proofs.Common.{ℕ, ◌+◌, ◌-◌, ◌≤◌, ◌<◌, ◌≡◌, true, ◌&&◌, ◌||◌, eqb, List, [], ◌∷◌, length, get_or, refl, sym, ap, arith, inl, inr, ◌∙◌, eq-eqb, ne_eqb}
use Rattle.std.proofs.lemmas.Bool.{cases_eq, and_parts, or_left}
use Rattle.s66_isa.specs.{least, has, Among, Set, numbers_in}
use Rattle.s66_isa.proofs.Lists.{least-le, has-among}
use Rattle.s66_bound.specs.{AreEnds}

abbrev pub word : List ℕ → ℕ → ℕ
word words n = get_or words (n - 1) 0

word-at : (words : List ℕ) (place n : ℕ) → n ≡ place + 1 → word words n ≡ get_or words place 0
word-at words place n here = (let e : n - 1 ≡ place = omega (arith, here) in ap (λ k. get_or words k 0) e)

-- those whose word is this
abbrev pub AreOf : List ℕ → ℕ → Set → Type 0
AreOf words least set = (n : ℕ) → has n (numbers_in set) ≡ true → word words n ≡ least

pub of-push : (words : List ℕ) (least place : ℕ) (set more : Set) → get_or words place 0 ≡ least → ((m : ℕ) → has m (numbers_in more) ≡ (eqb m (place + 1) || has m (numbers_in set))) →
    AreOf words least set → AreOf words least more
of-push words least place set more is joined known n there =
    elim (cases_eq n (place + 1)) [
      | inl here ↦ word-at words place n here ∙ is
      | inr other ↦ known n (sym (joined n ∙ rw (ne_eqb n (place + 1) other) refl) ∙ there)
    ]

-- WHERE THE LEAST STANDS

le-least : (f : ℕ → ℕ) (t : ℕ) (ns : List ℕ) → 0 < length ns → ((n : ℕ) → Among n ns → t ≤ f n) → t ≤ least f ns
le-least f t [] some h = absurd (omega (arith, some))
le-least f t (n ∷ []) some h = h n (inl refl)
le-least f t (n ∷ (m ∷ ns)) some h = omega (arith, h n (inl refl), le-least f t (m ∷ ns) (omega arith) (λ k among. h k (inr among)))

-- what is taken from those that remain and are ends has the least word
pub end-least : (words : List ℕ) (count n : ℕ) (rest ends both left : Set) → AreEnds words count ends → ((m : ℕ) → has m (numbers_in both) ≡ (has m (numbers_in rest) && has m (numbers_in ends))) →
    ((m : ℕ) → Among m (numbers_in rest) → (1 ≤ m) × (m ≤ count)) → 0 < length (numbers_in rest) → numbers_in both ≡ n ∷ numbers_in left → word words n ≡ least (word words) (numbers_in rest)
end-least words count n rest ends both left are joined within some taken =
    let there : has n (numbers_in both) ≡ true = ap (has n) taken ∙ or_left (eqb n n) (has n (numbers_in left)) (eq-eqb n n refl) in
    let (remains, is_end) = and_parts (has n (numbers_in rest)) (has n (numbers_in ends)) (sym (joined n) ∙ there) in
    let below : word words n ≤ least (word words) (numbers_in rest) =
    le-least (word words) (word words n) (numbers_in rest) some (λ m among. let (low, high) = within m among in are n m is_end low high)
    in
    omega (arith, below, least-le (word words) n (numbers_in rest) (has-among n (numbers_in rest) remains))
