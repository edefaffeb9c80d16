-- The numbers of a set, by a test and as a rising list, for loops that make a set number by number.
use Rattle.std.specs.Cmp.{both_ways}
use Rattle.std.proofs.Common.{ℕ, zero, suc, ◌+◌, ◌≤◌, ◌<◌, ◌≡◌, ◌≢◌, Bool, true, false, cond, not, ◌&&◌, ◌==◌, ◌||◌, List, [], ◌∷◌, length, refl, sym, subst, ap, arith, inl, inr, ltb, leb, eqb, ◌∙◌}
use Rattle.std.proofs.Common.{filter, leb-true, ltb-true, le-leb, lt-ltb, le-ltb, eq-eqb, ne_eqb, true≢false}
use Rattle.std.proofs.lemmas.Bool.{cases_eq, cases_lt, cond_both, and_parts, and_from, and_left, and_right, or_left, lt-leb}
use Rattle.std.proofs.lemmas.List.Filters.{length-filter_both}
use Rattle.s66_isa.specs.{BLOCK_LIMIT, has, Among, rising, Set, numbers_in, is_member}
use Rattle.s66_isa.proofs.Lists.{rising-among, among-rising, among-has, has-among, filter-among}
use Rattle.s66_isa.proofs.SetBits.{has-inside_rising, has-outside_rising}

-- WHEN TWO FILTERED RANGES ARE ONE

pub filter-same : (first second : ℕ → Bool) (k low : ℕ) → ((m : ℕ) → low ≤ m → m < low + k → first m ≡ second m) → filter first (rising k low) ≡ filter second (rising k low)
filter-same first second zero low h = refl
filter-same first second (suc k) low h =
    ap (λ b. cond b (low ∷ filter first (rising k (suc low))) (filter first (rising k (suc low)))) (h low (omega arith) (omega arith))
    ∙ ap (λ ms. cond (second low) (low ∷ ms) ms) (filter-same first second k (suc low) (λ m le lt. h m (omega arith) (omega arith)))

pub filter-every : (k low : ℕ) → filter (λ m. true) (rising k low) ≡ rising k low
filter-every zero low = refl
filter-every (suc k) low = ap (λ ms. low ∷ ms) (filter-every k (suc low))

pub filter-none : (test : ℕ → Bool) (k low : ℕ) → ((m : ℕ) → low ≤ m → test m ≡ false) → filter test (rising k low) ≡ []
filter-none test zero low h = refl
filter-none test (suc k) low h = rw (h low (omega arith)) (filter-none test k (suc low) (λ m le. h m (omega arith)))

filter-shorter : (test : ℕ → Bool) (k n low : ℕ) → k ≤ n → ((m : ℕ) → low + k ≤ m → test m ≡ false) → filter test (rising n low) ≡ filter test (rising k low)
filter-shorter test zero n low few h = filter-none test n low (λ m le. h m (omega arith))
filter-shorter test (suc k) zero low few h = absurd (omega arith)
filter-shorter test (suc k) (suc n) low few h = ap (λ ms. cond (test low) (low ∷ ms) ms) (filter-shorter test k n (suc low) (omega arith) (λ m le. h m (omega arith)))

-- THE NUMBERS THAT WERE LOOKED AT

-- n is one of the numbers from 1 to below k, and passes
abbrev pub within : (ℕ → Bool) → ℕ → ℕ → Bool
within test k n = leb 1 n && (ltb n k && test n)

pub within-parts : (test : ℕ → Bool) (k n : ℕ) → within test k n ≡ true → (1 ≤ n) × (n < k) × (test n ≡ true)
within-parts test k n h =
    let (first, rest) = and_parts (leb 1 n) (ltb n k && test n) h in
    let (last, passes) = and_parts (ltb n k) (test n) rest in
    (leb-true 1 n first, ltb-true n k last, passes)

pub within-from : (test : ℕ → Bool) (k n : ℕ) → 1 ≤ n → n < k → test n ≡ true → within test k n ≡ true
within-from test k n first last passes = and_from (leb 1 n) (ltb n k && test n) (le-leb 1 n first) (and_from (ltb n k) (test n) (lt-ltb n k last) passes)

within-inside : (test : ℕ → Bool) (k n : ℕ) → 1 ≤ n → n < k → within test k n ≡ test n
within-inside test k n first last = rw (le-leb 1 n first, lt-ltb n k last) refl

within-past : (test : ℕ → Bool) (k n : ℕ) → k ≤ n → within test k n ≡ false
within-past test k n past = and_right (leb 1 n) (ltb n k && test n) (and_left (ltb n k) (test n) (le-ltb n k past))

within-below : (test : ℕ → Bool) (k n : ℕ) → n < 1 → within test k n ≡ false
within-below test k n below = and_left (leb 1 n) (ltb n k && test n) (lt-leb 1 n below)

-- before the first, none was looked at
pub within-none : (test : ℕ → Bool) (n : ℕ) → within test 1 n ≡ false
within-none test n = elim (cases_lt n 1) [ inl below ↦ within-below test 1 n below | inr first ↦ within-past test 1 n first ]

-- the next number passes, or it doesn't
within-other : (test : ℕ → Bool) (k n : ℕ) → n ≢ k → within test k n ≡ within test (k + 1) n
within-other test k n past =
    both_ways (within test k n) (within test (k + 1) n)
    (λ h. let (first, last, passes) = within-parts test k n h in within-from test (k + 1) n first (omega (arith, last)) passes)
    (λ h. let (first, last, passes) = within-parts test (k + 1) n h in within-from test k n first (omega (arith, last, past)) passes)

pub within-push : (test : ℕ → Bool) (k n : ℕ) → 1 ≤ k → test k ≡ true → (eqb n k || within test k n) ≡ within test (k + 1) n
within-push test k n first passes =
    elim (cases_eq n k) [
      | inl here ↦ or_left (eqb n k) (within test k n) (eq-eqb n k here) ∙ sym (within-from test (k + 1) n (omega arith) (omega arith) (subst (λ m. test m ≡ true) (sym here) passes))
      | inr past ↦ rw (ne_eqb n k past) (within-other test k n past)
    ]

pub within-pass : (test : ℕ → Bool) (k n : ℕ) → test k ≡ false → within test k n ≡ within test (k + 1) n
within-pass test k n fails =
    elim (cases_eq n k) [
      | inl here ↦
          let none : within test (k + 1) n ≡ false = and_right (leb 1 n) (ltb n (k + 1) && test n) (and_right (ltb n (k + 1)) (test n) (subst (λ m. test m ≡ false) (sym here) fails)) in
          within-past test k n (omega arith) ∙ sym none
      | inr past ↦ within-other test k n past
    ]

-- if none passes from k on
pub within-all : (test : ℕ → Bool) (k more n : ℕ) → k ≤ more → ((m : ℕ) → k ≤ m → test m ≡ false) → within test k n ≡ within test more n
within-all test k more n few h =
    both_ways (within test k n) (within test more n)
    (λ is. let (first, last, passes) = within-parts test k n is in within-from test more n first (omega (arith, last)) passes)
    (λ is. let (first, last, passes) = within-parts test more n is in elim (cases_lt n k) [ inl below ↦ within-from test k n first below passes | inr past ↦ absurd (true≢false (sym passes ∙ h n past)) ])

-- two tests that agree on them
pub within-same : (first second : ℕ → Bool) (k n : ℕ) → ((m : ℕ) → 1 ≤ m → m < k → first m ≡ second m) → within first k n ≡ within second k n
within-same first second k n h =
    both_ways (within first k n) (within second k n)
    (λ is. let (low, high, passes) = within-parts first k n is in within-from second k n low high (sym (h n low high) ∙ passes))
    (λ is. let (low, high, passes) = within-parts second k n is in within-from first k n low high (h n low high ∙ passes))

-- OF SETS

-- what is in a filtered range is what was looked at
pub filter-within : (test : ℕ → Bool) (k n : ℕ) → has n (filter test (rising k 1)) ≡ within test (k + 1) n
filter-within test k n =
    elim (cases_lt n 1) [
      | inl below ↦ has-outside_rising test k 1 n (inl below) ∙ sym (within-below test (k + 1) n below)
      | inr first ↦
          elim (cases_lt n (k + 1)) [
            | inl last ↦ has-inside_rising test k 1 n first (omega arith) ∙ sym (within-inside test (k + 1) n first last)
            | inr past ↦ has-outside_rising test k 1 n (inr (omega arith)) ∙ sym (within-past test (k + 1) n past)
          ]
    ]

filter-alike : (member test : ℕ → Bool) (n k : ℕ) → k ≤ n → ((m : ℕ) → has m (filter member (rising n 1)) ≡ within test (k + 1) m) → filter member (rising n 1) ≡ filter test (rising k 1)
filter-alike member test n k few h =
    filter-same member (within test (k + 1)) n 1 (λ m first last. sym (has-inside_rising member n 1 m first last) ∙ h m)
    ∙ (filter-shorter (within test (k + 1)) k n 1 few (λ m past. within-past test (k + 1) m (omega arith))
    ∙ filter-same (within test (k + 1)) test k 1 (λ m first last. within-inside test (k + 1) m first (omega arith)))

-- a set has no numbers but 1 to the most that a block has
pub numbers_in-range : (s : Set) (n : ℕ) → has n (numbers_in s) ≡ true → (1 ≤ n) × (n ≤ BLOCK_LIMIT)
unfolding numbers_in
numbers_in-range s n h =
    let (first, last, is) = within-parts (is_member s) (BLOCK_LIMIT + 1) n (sym (filter-within (is_member s) BLOCK_LIMIT n) ∙ h) in
    (first, omega (arith, last))

-- of the numbers up to k, if they are a set's
pub rising-few : (s : Set) (k : ℕ) → numbers_in s ≡ rising k 1 → k ≤ BLOCK_LIMIT
rising-few s k is =
    elim (cases_lt k 1) [
      | inl none ↦ omega (arith, none)
      | inr some ↦ (numbers_in-range s k (ap (has k) is ∙ among-has k (rising k 1) (rising-among k 1 k some (omega arith)))).1
    ]

-- a set that has those numbers from 1 to k that pass
pub numbers_in-filter : (s : Set) (test : ℕ → Bool) (k : ℕ) → k ≤ BLOCK_LIMIT → ((m : ℕ) → has m (numbers_in s) ≡ within test (k + 1) m) → numbers_in s ≡ filter test (rising k 1)
unfolding numbers_in
numbers_in-filter s test k few h = filter-alike (is_member s) test BLOCK_LIMIT k few h

-- as many as there are numbers
pub numbers_in-few : (s : Set) → length (numbers_in s) ≤ BLOCK_LIMIT
unfolding numbers_in
numbers_in-few s = omega (arith, length-filter_both (is_member s) (λ n. not (is_member s n)) (λ n. refl) (rising BLOCK_LIMIT 1))

filter-rises : (test : ℕ → Bool) (k low n m : ℕ) (ns : List ℕ) → filter test (rising k low) ≡ n ∷ ns → Among m ns → n < m
filter-rises test zero low n m ns is among = absurd cc
filter-rises test (suc k) low n m ns is among =
    let rest = filter test (rising k (suc low)) in
    cond_both (test low) (low ∷ rest) rest (λ zs. zs ≡ n ∷ ns → n < m)
    (λ passes is. let (first, others) = parts low n rest ns is in
    omega (arith, first, (among-rising k (suc low) m (filter-among test m (rising k (suc low)) (subst (Among m) (sym others) among)).0).0))
    (λ fails is. filter-rises test k (suc low) n m ns is among)
    is
  where
    parts : (low n : ℕ) (xs ns : List ℕ) → low ∷ xs ≡ n ∷ ns → (low ≡ n) × (xs ≡ ns)
    parts low n xs ns is = (cc, cc)

-- what is taken from a set is its lowest number
pub taken-lower : (set rest : Set) (n m : ℕ) → numbers_in set ≡ n ∷ numbers_in rest → Among m (numbers_in rest) → n < m
unfolding numbers_in
taken-lower set rest n m is among = filter-rises (is_member set) BLOCK_LIMIT 1 n m (numbers_in rest) is among

-- the others are what is left
pub taken-out : (set rest : Set) (n : ℕ) → numbers_in set ≡ n ∷ numbers_in rest → (m : ℕ) → has m (numbers_in rest) ≡ (not (m == n) && has m (numbers_in set))
taken-out set rest n is m =
    elim (cases_eq m n) [
      | inl here ↦
          rw (eq-eqb m n here)
          (both_ways (has m (numbers_in rest)) false (λ h. absurd (omega (arith, here, taken-lower set rest n m is (has-among m (numbers_in rest) h)))) (λ h. absurd (true≢false (sym h))))
      | inr apart ↦ rw (ne_eqb m n apart) (sym (ap (has m) is ∙ rw (ne_eqb m n apart) refl))
    ]

pub taken-there : (set rest : Set) (n : ℕ) → numbers_in set ≡ n ∷ numbers_in rest → has n (numbers_in set) ≡ true
taken-there set rest n is = ap (has n) is ∙ rw (eq-eqb n n refl) refl

-- without the numbers of a set that has one
pub without-one : (set one none : Set) (m n : ℕ) → has m (numbers_in one) ≡ (m == n || has m (numbers_in none)) → numbers_in none ≡ [] →
    (has m (numbers_in set) && not (has m (numbers_in one))) ≡ (not (m == n) && has m (numbers_in set))
without-one set one none m n with is = rw (with, ap (has m) is) (turned (m == n) (has m (numbers_in set)))
  where
    turned : (a b : Bool) → (b && not (a || false)) ≡ (not a && b)
    turned true true = refl
    turned true false = refl
    turned false true = refl
    turned false false = refl
