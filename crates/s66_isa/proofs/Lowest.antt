-- The lowest bit of a word, the word without it, and the first of the rising numbers that pass a test.
use mir.Val.{bits}
use Rattle.std.specs.Int.{Width, bit_at, trailing_zeros}
use Rattle.std.proofs.Common.{ℕ, zero, suc, ◌+◌, ◌-◌, ◌/◌, ◌%◌, ◌^◌, ◌≤◌, ◌<◌, ◌≡◌, Bool, true, false, ◌∷◌, filter, bit_and, sym, ap, ◌∙◌, inl, inr, arith}
use Rattle.std.proofs.lemmas.Bool.{cases_eq}
use Rattle.std.proofs.lemmas.Nat.Bits.{bit_at-suc, bit_at_lowest, bit_at_and, bit_at-trailing_zeros}
use Rattle.s66_isa.specs.{rising}
use Rattle.s66_isa.proofs.Lists.{filter-same, among-rising}

-- the first that passes, and those that pass after it
pub filter-first : (test rest : ℕ → Bool) (k low n : ℕ) → low ≤ n → n < low + k → test n ≡ true →
    ((m : ℕ) → low ≤ m → m < n → test m ≡ false) → ((m : ℕ) → low ≤ m → m ≤ n → rest m ≡ false) → ((m : ℕ) → n < m → m < low + k → test m ≡ rest m) →
    filter test (rising k low) ≡ n ∷ filter rest (rising k low)
filter-first test rest zero low n first last is below none same = absurd (omega arith)
filter-first test rest (suc k) low n first last is below none same =
    elim (cases_eq low n) [
      | inl here ↦
          rw (none low (omega arith) (omega arith), ap test here ∙ is)
          (ap (λ m. m ∷ filter test (rising k (suc low))) here
          ∙ ap (λ ns. n ∷ ns) (filter-same test rest (rising k (suc low)) (λ m among. let (le, lt) = among-rising k (suc low) m among in same m (omega (arith, here, le)) (omega (arith, lt)))))
      | inr past ↦
          rw (none low (omega arith) (omega arith), below low (omega arith) (omega arith))
          (filter-first test rest k (suc low) n (omega arith) (omega arith) is (λ m le lt. below m (omega arith) lt) (λ m le lt. none m (omega arith) lt) (λ m lt up. same m lt (omega arith)))
    ]

-- one less has the lowest bit cleared, and the higher ones as they are
one-less : (t n : ℕ) → bit_at n t ≡ 1 → ((i : ℕ) → i < t → bit_at n i ≡ 0) → (bit_at (n - 1) t ≡ 0) × ((i : ℕ) → t < i → bit_at (n - 1) i ≡ bit_at n i)
one-less zero n own lower =
    let odd : n % 2 ≡ 1 = sym (bit_at_lowest n) ∙ own in
    (bit_at_lowest (n - 1) ∙ omega (arith, odd), higher odd)
  where
    higher : n % 2 ≡ 1 → (i : ℕ) → 0 < i → bit_at (n - 1) i ≡ bit_at n i
    higher odd zero lt = absurd (omega (arith, lt))
    higher odd (suc i) lt = let half : (n - 1) / 2 ≡ n / 2 = omega (arith, odd) in bit_at-suc (n - 1) i ∙ ap (λ m. bit_at m i) half ∙ sym (bit_at-suc n i)
one-less (suc t) n own lower =
    let even : n % 2 ≡ 0 = sym (bit_at_lowest n) ∙ lower 0 (omega arith) in
    let half : (n - 1) / 2 ≡ n / 2 - 1 = omega (arith, even) in
    let (clear, above) = one-less t (n / 2) (sym (bit_at-suc n t) ∙ own) (λ i lt. sym (bit_at-suc n i) ∙ lower (suc i) (omega (arith, lt))) in
    (bit_at-suc (n - 1) t ∙ ap (λ m. bit_at m t) half ∙ clear, higher half above)
  where
    higher : (n - 1) / 2 ≡ n / 2 - 1 → ((i : ℕ) → t < i → bit_at (n / 2 - 1) i ≡ bit_at (n / 2) i) → (i : ℕ) → suc t < i → bit_at (n - 1) i ≡ bit_at n i
    higher half above zero lt = absurd (omega (arith, lt))
    higher half above (suc i) lt = bit_at-suc (n - 1) i ∙ ap (λ m. bit_at m i) half ∙ above i (omega (arith, lt)) ∙ sym (bit_at-suc n i)

-- WITHOUT THE LOWEST BIT OF A WORD

abbrev pub IsLowest : Width → ℕ → ℕ → Type 0
IsLowest w word t =
    (t < bits w) × (bit_at word t ≡ 1) × ((i : ℕ) → i < t → bit_at word i ≡ 0)
    × ((i : ℕ) → i ≤ t → bit_at (bit_and word (word - 1)) i ≡ 0) × ((i : ℕ) → t < i → bit_at word i ≡ bit_at (bit_and word (word - 1)) i)

pub lowest-bit : (w : Width) (word : ℕ) → 0 < word → word < 2 ^ bits w → IsLowest w word (trailing_zeros w word)
lowest-bit w word some fits =
    let t = trailing_zeros w word in
    let (few, own, lower) = bit_at-trailing_zeros w word some fits in
    let (clear, higher) = one-less t word own lower in
    (few, own, lower, none t clear lower, λ i lt. omega (arith, bit_at_and word (word - 1) i, higher i lt))
  where
    none : (t : ℕ) → bit_at (word - 1) t ≡ 0 → ((i : ℕ) → i < t → bit_at word i ≡ 0) → (i : ℕ) → i ≤ t → bit_at (bit_and word (word - 1)) i ≡ 0
    none t clear lower i le =
        elim (cases_eq i t) [
          | inl here ↦ omega (arith, bit_at_and word (word - 1) i, ap (bit_at (word - 1)) here, clear)
          | inr other ↦ omega (arith, bit_at_and word (word - 1) i, lower i (omega (arith, le, other)))
        ]
