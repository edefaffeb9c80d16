-- The first number of a block that passes a test, for what a search for a partner or for a missing instruction finds.
use Rattle.std.proofs.Common.{ℕ, zero, suc, ◌+◌, ◌-◌, ◌≡◌, ◌≢◌, ◌≤◌, ◌<◌, ◌∙◌, Bool, true, false, if◌then◌else◌, [], refl, ap, sym, arith, inl, inr}
use Rattle.std.proofs.lemmas.Bool.{cases_eq}
use Rattle.s66_isa.specs.{first_that, rising}
use Rattle.s66_isa.proofs.Lists.{rising-next}

pub rising_none : (n i : ℕ) → n ≤ i → rising (n - i) (i + 1) ≡ []
rising_none n i le =
    let none : n - i ≡ 0 = omega arith in
    ap (λ k. rising k (i + 1)) none

pub first_here : (test : ℕ → Bool) (n i : ℕ) → i < n → test (i + 1) ≡ true → first_that test (rising (n - i) (i + 1)) ≡ i + 1
first_here test n i lt is = ap (first_that test) (rising-next n i lt) ∙ rw is refl

pub first_later : (test : ℕ → Bool) (n i : ℕ) → i < n → test (i + 1) ≡ false → first_that test (rising (n - i) (i + 1)) ≡ first_that test (rising (n - (i + 1)) (i + 1 + 1))
first_later test n i lt not_so = ap (first_that test) (rising-next n i lt) ∙ rw not_so refl

pub first_none : (test : ℕ → Bool) (n i : ℕ) → n ≤ i → first_that test (rising (n - i) (i + 1)) ≡ 0
first_none test n i le = ap (first_that test) (rising_none n i le)

-- none passes if the first is 0
pub none_passes : (test : ℕ → Bool) (k low : ℕ) → 1 ≤ low → first_that test (rising k low) ≡ 0 → (n : ℕ) → low ≤ n → n < low + k → test n ≡ false
none_passes test zero low some none n least most = absurd (omega (arith, least, most))
none_passes test (suc k) low some none n least most = by_test (test low) refl none (λ later past. none_passes test k (suc low) (omega arith) later n (omega (arith, least, past)) (omega (arith, most)))
  where
    by_test : (t : Bool) → test low ≡ t → (if t then low else first_that test (rising k (suc low))) ≡ 0 → (first_that test (rising k (suc low)) ≡ 0 → n ≢ low → test n ≡ false) → test n ≡ false
    by_test true is none later = absurd (omega (arith, some, none))
    by_test false not_so none later =
        elim (cases_eq n low) [
          | inl here ↦ ap test here ∙ not_so
          | inr past ↦ later none past
        ]

-- the first that passes is one of them and passes
pub first_passes : (test : ℕ → Bool) (k low n : ℕ) → 1 ≤ low → first_that test (rising k low) ≡ n → n ≢ 0 → (low ≤ n) × (n < low + k) × (test n ≡ true)
first_passes test zero low n some is other = absurd (other (sym is))
first_passes test (suc k) low n some is other = by_test (test low) refl is (λ later. first_passes test k (suc low) n (omega arith) later other)
  where
    by_test : (t : Bool) → test low ≡ t → (if t then low else first_that test (rising k (suc low))) ≡ n → (first_that test (rising k (suc low)) ≡ n → (suc low ≤ n) × (n < suc low + k) × (test n ≡ true)) →
        (low ≤ n) × (n < low + suc k) × (test n ≡ true)
    by_test true passes is later = (omega (arith, is), omega (arith, is), ap test (sym is) ∙ passes)
    by_test false not_so is later =
        let (least, most, passes) = later is in
        (omega (arith, least), omega (arith, most), passes)
