-- The lowest number of a set of `src/set.rt`, and the others (`pop_first`).
use Rattle.std.specs.Int.{bit_at, trailing_zeros}
use Rattle.std.proofs.Common.{ℕ, ◌+◌, ◌-◌, ◌^◌, ◌≤◌, ◌<◌, ◌≡◌, ◌==◌, [], ◌∷◌, bit_and, sym, ap, ◌∙◌, inl, inr, arith, w64, eq-eqb, ne_eqb}
use Rattle.std.proofs.lemmas.Bool.{cases_lt}
use Rattle.std.proofs.lemmas.Nat.Bits.{bit_at-zero}
use Rattle.s66_isa.specs.{BLOCK_LIMIT, Set, bit_of, is_member, numbers_in}
use Rattle.s66_isa.proofs.SetBits.{in-low, in-high}
use Rattle.s66_isa.proofs.Lowest.{filter-first, lowest-bit}
use Rattle.s66_isa.proofs.Sets.{filter-none}

-- THE LOWEST NUMBER IS TAKEN OUT

-- n is the lowest number of a set, and the rest has the others
first-out : (set rest : Set) (n : ℕ) → 1 ≤ n → n ≤ BLOCK_LIMIT → bit_of set n ≡ 1 → ((m : ℕ) → 1 ≤ m → m < n → bit_of set m ≡ 0) → ((m : ℕ) → 1 ≤ m → m ≤ n → bit_of rest m ≡ 0) →
    ((m : ℕ) → n < m → bit_of set m ≡ bit_of rest m) → numbers_in set ≡ n ∷ numbers_in rest
unfolding numbers_in
first-out set rest n low high own below none same =
    filter-first (is_member set) (is_member rest) BLOCK_LIMIT 1 n low (omega (arith, high))
    (eq-eqb (bit_of set n) 1 own)
    (λ m some lt. ne_eqb (bit_of set m) 1 (λ e. omega (arith, e, below m some lt)))
    (λ m some le. ne_eqb (bit_of rest m) 1 (λ e. omega (arith, e, none m some le)))
    (λ m lt up. ap (λ bit. bit == 1) (same m lt))

pub low-out : (set : Set) → 0 < set.low → set.low < 2 ^ 64 → numbers_in set ≡ (trailing_zeros w64 set.low + 1) ∷ numbers_in (record { low = bit_and set.low (set.low - 1); high = set.high })
low-out set some fits =
    let t = trailing_zeros w64 set.low in
    let rest : Set = record { low = bit_and set.low (set.low - 1); high = set.high } in
    let (few, own, lower, none, same) = lowest-bit w64 set.low some fits in
    first-out set rest (t + 1) (omega arith) (omega (arith, few))
    (in-low set (t + 1) (omega (arith, few)) ∙ ((let e : t + 1 - 1 ≡ t = omega arith in ap (bit_at set.low) e) ∙ own))
    (λ m first lt. in-low set m (omega (arith, few, lt)) ∙ lower (m - 1) (omega (arith, first, lt)))
    (λ m first le. in-low rest m (omega (arith, few, le)) ∙ none (m - 1) (omega (arith, le)))
    (λ m lt.
    elim (cases_lt 64 m) [
      | inl above ↦ in-high set m above ∙ sym (in-high rest m above)
      | inr le ↦ in-low set m le ∙ (same (m - 1) (omega (arith, lt)) ∙ sym (in-low rest m le))
    ])

pub high-out : (set : Set) → set.low ≡ 0 → 0 < set.high → set.high < 2 ^ 64 → numbers_in set ≡ (trailing_zeros w64 set.high + 65) ∷ numbers_in (record { low = set.low; high = bit_and set.high (set.high - 1) })
high-out set none_low some fits =
    let t = trailing_zeros w64 set.high in
    let rest : Set = record { low = set.low; high = bit_and set.high (set.high - 1) } in
    let (few, own, lower, none, same) = lowest-bit w64 set.high some fits in
    let no_low : (m : ℕ) → bit_at set.low (m - 1) ≡ 0 = λ m. ap (λ word. bit_at word (m - 1)) none_low ∙ bit_at-zero (m - 1) in
    first-out set rest (t + 65) (omega arith) (omega (arith, few))
    (in-high set (t + 65) (omega arith) ∙ ((let e : t + 65 - 65 ≡ t = omega arith in ap (bit_at set.high) e) ∙ own))
    (λ m first lt. elim (cases_lt 64 m) [ inl above ↦ in-high set m above ∙ lower (m - 65) (omega (arith, above, lt)) | inr le ↦ in-low set m le ∙ no_low m ])
    (λ m first le. elim (cases_lt 64 m) [ inl above ↦ in-high rest m above ∙ none (m - 65) (omega (arith, le)) | inr few2 ↦ in-low rest m few2 ∙ no_low m ])
    (λ m lt. in-high set m (omega (arith, lt)) ∙ (same (m - 65) (omega (arith, lt)) ∙ sym (in-high rest m (omega (arith, lt)))))

pub none-left : (set : Set) → set.low ≡ 0 → set.high ≡ 0 → numbers_in set ≡ []
unfolding numbers_in
none-left set none_low none_high = filter-none (is_member set) BLOCK_LIMIT 1 (λ m low. ne_eqb (bit_of set m) 1 (λ e. omega (arith, e, zero-bit m)))
  where
    zero-bit : (m : ℕ) → bit_of set m ≡ 0
    zero-bit m =
        elim (cases_lt 64 m) [
          | inl above ↦ in-high set m above ∙ (ap (λ word. bit_at word (m - 65)) none_high ∙ bit_at-zero (m - 65))
          | inr le ↦ in-low set m le ∙ (ap (λ word. bit_at word (m - 1)) none_low ∙ bit_at-zero (m - 1))
        ]
