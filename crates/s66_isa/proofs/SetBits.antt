-- The numbers in a set of `src/set.rt`, and the bits of its two words.
use lib.Bits.{and_comm}
use Rattle.std.specs.Int.{bit_at, bit_not}
use Rattle.std.specs.Int.Count.{ones_step}
use Rattle.std.proofs.Common.{ℕ, zero, suc, ◌+◌, ◌-◌, ◌*◌, ◌/◌, ◌%◌, ◌^◌, ◌≤◌, ◌<◌, ◌≡◌, ◌⊎◌, Bool, true, false, cond, ◌||◌, ◌&&◌, not, ◌==◌, ◌∷◌, ◌++◌, List, length, filter, min, bit_and, bit_or}
use Rattle.std.proofs.Common.{count_ones, eqb-true, eq-eqb, ne_eqb, refl, sym, ap, subst, ◌∙◌, inl, inr, arith, pow-suc, length-append, w64, le-leb}
use Rattle.std.proofs.lemmas.Bool.{cases_eq, cases_lt, cond_both, or_from, eqb-false, and_parts, lt-leb}
use Rattle.std.proofs.lemmas.List.Elements.{filter-append}
use Rattle.std.proofs.lemmas.Nat.{ones_le_self, and_le_l}
use Rattle.std.proofs.lemmas.Nat.Bits.{bit_at-lt, bit_at_lowest, bit_at-suc, bit_at_and, bit_at_or, bit_at_not, bit_at_set_same, bit_at_set_other, same_from_bits_below}
use Rattle.s66_isa.specs.{BLOCK_LIMIT, has, rising, Set, bit_of, is_member, numbers_in}

-- RISING NUMBERS THAT PASS A TEST

pub has-outside_rising : (test : ℕ → Bool) (count low m : ℕ) → (m < low) ⊎ (low + count ≤ m) → has m (filter test (rising count low)) ≡ false
has-outside_rising test zero low m out = refl
has-outside_rising test (suc count) low m out =
    let rest = filter test (rising count (suc low)) in
    let none : has m rest ≡ false = has-outside_rising test count (suc low) m (grind arith) in
    cond_both (test low) (low ∷ rest) rest (λ ns. has m ns ≡ false)
    (λ is. or_from (m == low) (has m rest) (ne_eqb m low (λ e. omega arith)) none)
    (λ is. none)

pub has-inside_rising : (test : ℕ → Bool) (count low m : ℕ) → low ≤ m → m < low + count → has m (filter test (rising count low)) ≡ test m
has-inside_rising test zero low m le lt = absurd (omega arith)
has-inside_rising test (suc count) low m le lt =
    let rest = filter test (rising count (suc low)) in
    elim (cases_eq m low) [
      | inl here ↦
          subst (λ n. has m (cond (test low) (low ∷ rest) rest) ≡ test n) (sym here)
          (cond_both (test low) (low ∷ rest) rest (λ ns. has m ns ≡ test low)
          (λ is. rw (eq-eqb m low here, is) refl)
          (λ is. has-outside_rising test count (suc low) m (inl (omega arith)) ∙ sym is))
      | inr past ↦
          let after : has m rest ≡ test m = has-inside_rising test count (suc low) m (omega arith) (omega arith) in
          cond_both (test low) (low ∷ rest) rest (λ ns. has m ns ≡ test m) (λ is. rw (ne_eqb m low past) after) (λ is. after)
    ]

-- WHICH NUMBERS ARE THERE

pub has-inside : (set : Set) (m : ℕ) → 1 ≤ m → m ≤ BLOCK_LIMIT → has m (numbers_in set) ≡ is_member set m
unfolding numbers_in
has-inside set m low high = has-inside_rising (is_member set) BLOCK_LIMIT 1 m low (omega arith)

pub has-outside : (set : Set) (m : ℕ) → (m < 1) ⊎ (BLOCK_LIMIT < m) → has m (numbers_in set) ≡ false
unfolding numbers_in
has-outside set m out = has-outside_rising (is_member set) BLOCK_LIMIT 1 m (grind arith)

pub in-low : (set : Set) (m : ℕ) → m ≤ 64 → bit_of set m ≡ bit_at set.low (m - 1)
in-low set m le = rw (le-leb m 64 le) refl

pub in-high : (set : Set) (m : ℕ) → 64 < m → bit_of set m ≡ bit_at set.high (m - 65)
in-high set m lt = rw (lt-leb m 64 lt) refl

at-low : (set : Set) (i : ℕ) → i < 64 → bit_at set.low i ≡ bit_of set (1 + i)
at-low set i lt = (let e : i ≡ 1 + i - 1 = omega arith in ap (bit_at set.low) e) ∙ sym (in-low set (1 + i) (omega arith))

at-high : (set : Set) (i : ℕ) → bit_at set.high i ≡ bit_of set (65 + i)
at-high set i = (let e : i ≡ 65 + i - 65 = omega arith in ap (bit_at set.high) e) ∙ sym (in-high set (65 + i) (omega arith))

bit-lt : (set : Set) (m : ℕ) → bit_of set m < 2
bit-lt set m = elim (cases_lt 64 m) [ inl lt ↦ rw (lt-leb m 64 lt) (bit_at-lt set.high (m - 65)) | inr le ↦ rw (le-leb m 64 le) (bit_at-lt set.low (m - 1)) ]

-- what is so of the bits is so of the numbers, if a number outside the block's is in none of the sets
from-members : (all set other : Set) (tell : ℕ → Bool → Bool → Bool) → ((m : ℕ) → (m < 1) ⊎ (BLOCK_LIMIT < m) → tell m false false ≡ false) →
    ((m : ℕ) → 1 ≤ m → m ≤ BLOCK_LIMIT → is_member all m ≡ tell m (is_member set m) (is_member other m)) → (m : ℕ) → has m (numbers_in all) ≡ tell m (has m (numbers_in set)) (has m (numbers_in other))
from-members all set other tell outside inside m =
    elim (cases_lt m 1) [
      | inl below ↦ out (inl below)
      | inr low ↦
          elim (cases_lt BLOCK_LIMIT m) [
            | inl above ↦ out (inr above)
            | inr high ↦ has-inside all m low high ∙ (inside m low high ∙ sym (ap (λ b. tell m b (has m (numbers_in other))) (has-inside set m low high) ∙ ap (tell m (is_member set m)) (has-inside other m low high)))
          ]
    ]
  where
    out : (m < 1) ⊎ (BLOCK_LIMIT < m) → has m (numbers_in all) ≡ tell m (has m (numbers_in set)) (has m (numbers_in other))
    out o = has-outside all m o ∙ sym (ap (λ b. tell m b (has m (numbers_in other))) (has-outside set m o) ∙ (ap (tell m false) (has-outside other m o) ∙ outside m o))

-- ONE NUMBER MORE

one-more : (word first n m : ℕ) → first ≤ n → n < first + 64 → first ≤ m → (bit_at (bit_or word (1 * 2 ^ (n - first) % 2 ^ 64)) (m - first) == 1) ≡ (m == n || bit_at word (m - first) == 1)
one-more word first n m low high le =
    let more = bit_or word (1 * 2 ^ (n - first) % 2 ^ 64) in
    elim (cases_eq m n) [
      | inl here ↦ eq-eqb (bit_at more (m - first)) 1 (ap (λ k. bit_at more (k - first)) here ∙ bit_at_set_same w64 word (n - first) (omega arith)) ∙ sym (rw (eq-eqb m n here) refl)
      | inr apart ↦ ap (λ bit. bit == 1) (bit_at_set_other w64 word (n - first) (omega arith) (m - first) (λ e. apart (omega (arith, e)))) ∙ sym (rw (ne_eqb m n apart) refl)
    ]

pub with-low : (set : Set) (n : ℕ) → 1 ≤ n → n ≤ 64 → (m : ℕ) → has m (numbers_in (record { low = bit_or set.low (1 * 2 ^ (n - 1) % 2 ^ 64); high = set.high })) ≡ (m == n || has m (numbers_in set))
with-low set n low high =
    from-members (record { low = bit_or set.low (1 * 2 ^ (n - 1) % 2 ^ 64); high = set.high }) set set (λ m b c. m == n || b)
    (λ m out. rw (ne_eqb m n (grind arith)) refl)
    (λ m some few.
    elim (cases_lt 64 m) [
      | inl lt ↦ rw (lt-leb m 64 lt, ne_eqb m n (λ e. omega (arith, e, lt))) refl
      | inr le ↦ rw (le-leb m 64 le) (one-more set.low 1 n m low (omega (arith, high)) some)
    ])

pub with-high : (set : Set) (n : ℕ) → 64 < n → n ≤ BLOCK_LIMIT → (m : ℕ) → has m (numbers_in (record { low = set.low; high = bit_or set.high (1 * 2 ^ (n - 65) % 2 ^ 64) })) ≡ (m == n || has m (numbers_in set))
with-high set n low high =
    from-members (record { low = set.low; high = bit_or set.high (1 * 2 ^ (n - 65) % 2 ^ 64) }) set set (λ m b c. m == n || b)
    (λ m out. rw (ne_eqb m n (grind arith)) refl)
    (λ m some few.
    elim (cases_lt 64 m) [
      | inl lt ↦ rw (lt-leb m 64 lt) (one-more set.high 65 n m (omega (arith, low)) (omega (arith, high)) (omega (arith, lt)))
      | inr le ↦ rw (le-leb m 64 le, ne_eqb m n (λ e. omega (arith, e, le, low))) refl
    ])

-- IN BOTH, IN EITHER, WITHOUT ANOTHER, AND WITHIN ANOTHER

abbrev And : Set → Set → Set
And set other = record { low = bit_and set.low other.low; high = bit_and set.high other.high }

and-bit : (set other : Set) (m : ℕ) → bit_of (And set other) m ≡ min (bit_of set m) (bit_of other m)
and-bit set other m =
    elim (cases_lt 64 m) [
      | inl lt ↦ rw (lt-leb m 64 lt) (bit_at_and set.high other.high (m - 65))
      | inr le ↦ rw (le-leb m 64 le) (bit_at_and set.low other.low (m - 1))
    ]

tells-and : (x y z : ℕ) → x < 2 → y < 2 → z ≡ min x y → (z == 1) ≡ ((x == 1) && (y == 1))
tells-and x y z h1 h2 e = grind (arith, h1, h2, e)

pub both-numbers : (set other : Set) (m : ℕ) → has m (numbers_in (record { low = bit_and set.low other.low; high = bit_and set.high other.high })) ≡ (has m (numbers_in set) && has m (numbers_in other))
both-numbers set other =
    from-members (And set other) set other (λ m b c. b && c) (λ m out. refl)
    (λ m low high. tells-and (bit_of set m) (bit_of other m) (bit_of (And set other) m) (bit-lt set m) (bit-lt other m) (and-bit set other m))

or-member : (set other : Set) (m : ℕ) → is_member (record { low = bit_or set.low other.low; high = bit_or set.high other.high }) m ≡ (is_member set m || is_member other m)
or-member set other m =
    elim (cases_lt 64 m) [
      | inl lt ↦ rw (lt-leb m 64 lt) (grind (arith, bit_at_or set.high other.high (m - 65), bit_at-lt set.high (m - 65), bit_at-lt other.high (m - 65)))
      | inr le ↦ rw (le-leb m 64 le) (grind (arith, bit_at_or set.low other.low (m - 1), bit_at-lt set.low (m - 1), bit_at-lt other.low (m - 1)))
    ]

pub either-numbers : (set other : Set) (m : ℕ) → has m (numbers_in (record { low = bit_or set.low other.low; high = bit_or set.high other.high })) ≡ (has m (numbers_in set) || has m (numbers_in other))
either-numbers set other =
    from-members (record { low = bit_or set.low other.low; high = bit_or set.high other.high }) set other (λ m b c. b || c) (λ m out. refl) (λ m low high. or-member set other m)

abbrev Not : Set → Set
Not set = record { low = bit_not w64 set.low; high = bit_not w64 set.high }

not-bit : (set : Set) (m : ℕ) → set.low < 2 ^ 64 → set.high < 2 ^ 64 → 1 ≤ m → m ≤ BLOCK_LIMIT → bit_of (Not set) m ≡ 1 - bit_of set m
not-bit set m fits fits2 low high =
    elim (cases_lt 64 m) [
      | inl lt ↦ rw (lt-leb m 64 lt) (bit_at_not w64 set.high (m - 65) fits2 (omega (arith, lt, high)))
      | inr le ↦ rw (le-leb m 64 le) (bit_at_not w64 set.low (m - 1) fits (omega (arith, low, le)))
    ]

tells-not : (x y z : ℕ) → x < 2 → y < 2 → z ≡ min x (1 - y) → (z == 1) ≡ ((x == 1) && not (y == 1))
tells-not x y z h1 h2 e = grind (arith, h1, h2, e)

pub without-numbers : (set other : Set) → other.low < 2 ^ 64 → other.high < 2 ^ 64 → (m : ℕ) →
    has m (numbers_in (record { low = bit_and set.low (bit_not w64 other.low); high = bit_and set.high (bit_not w64 other.high) })) ≡ (has m (numbers_in set) && not (has m (numbers_in other)))
without-numbers set other fits fits2 =
    from-members (And set (Not other)) set other (λ m b c. b && not c) (λ m out. refl)
    (λ m low high. tells-not (bit_of set m) (bit_of other m) (bit_of (And set (Not other)) m) (bit-lt set m) (bit-lt other m)
    (and-bit set (Not other) m ∙ ap (min (bit_of set m)) (not-bit other m fits fits2 low high)))

abbrev pub IsWithin : Set → Set → Type 0
IsWithin set other = (m : ℕ) → has m (numbers_in set) ≡ true → has m (numbers_in other) ≡ true

pub from-shared : (set other : Set) → bit_and set.low other.low ≡ set.low → bit_and set.high other.high ≡ set.high → IsWithin set other
from-shared set other low high m is =
    let same : And set other ≡ set = rw (low, high) refl in
    let both : (has m (numbers_in set) && has m (numbers_in other)) ≡ true = sym (both-numbers set other m) ∙ (ap (λ (s : Set). has m (numbers_in s)) same ∙ is) in
    (and_parts (has m (numbers_in set)) (has m (numbers_in other)) both).1

shared-bit : (set other : Set) → IsWithin set other → (m : ℕ) → 1 ≤ m → m ≤ BLOCK_LIMIT → bit_of (And set other) m ≡ bit_of set m
shared-bit set other each m low high =
    elim (cases_eq (bit_of set m) 1) [
      | inl own ↦
          let there : bit_of other m ≡ 1 = eqb-true (bit_of other m) 1 (sym (has-inside other m low high) ∙ each m (has-inside set m low high ∙ eq-eqb (bit_of set m) 1 own)) in
          omega (arith, own, there, and-bit set other m)
      | inr clear ↦ grind (arith, clear, and-bit set other m, bit-lt set m)
    ]

pub shared-low : (set other : Set) → set.low < 2 ^ 64 → IsWithin set other → bit_and set.low other.low ≡ set.low
shared-low set other fits each =
    same_from_bits_below 64 (bit_and set.low other.low) set.low (omega (arith, fits, and_le_l set.low other.low)) fits
    (λ i lt. at-low (And set other) i lt ∙ (shared-bit set other each (1 + i) (omega arith) (omega (arith, lt)) ∙ sym (at-low set i lt)))

pub shared-high : (set other : Set) → set.high < 2 ^ 64 → IsWithin set other → bit_and set.high other.high ≡ set.high
shared-high set other fits each =
    same_from_bits_below 64 (bit_and set.high other.high) set.high (omega (arith, fits, and_le_l set.high other.high)) fits
    (λ i lt. at-high (And set other) i ∙ (shared-bit set other each (65 + i) (omega arith) (omega (arith, lt)) ∙ sym (at-high set i)))

-- THE SAME NUMBERS

alike-within : (set other : Set) → ((m : ℕ) → has m (numbers_in set) ≡ has m (numbers_in other)) → IsWithin set other
alike-within set other same m is = sym (same m) ∙ is

pub alike-low : (set other : Set) → set.low < 2 ^ 64 → other.low < 2 ^ 64 → ((m : ℕ) → has m (numbers_in set) ≡ has m (numbers_in other)) → set.low ≡ other.low
alike-low set other fits fits2 same =
    sym (shared-low set other fits (alike-within set other same)) ∙ (and_comm set.low other.low ∙ shared-low other set fits2 (alike-within other set (λ m. sym (same m))))

pub alike-high : (set other : Set) → set.high < 2 ^ 64 → other.high < 2 ^ 64 → ((m : ℕ) → has m (numbers_in set) ≡ has m (numbers_in other)) → set.high ≡ other.high
alike-high set other fits fits2 same =
    sym (shared-high set other fits (alike-within set other same)) ∙ (and_comm set.high other.high ∙ shared-high other set fits2 (alike-within other set (λ m. sym (same m))))

-- what is the same of all numbers of a block is the same of all
pub same-inside : (set other : Set) → ((m : ℕ) → 1 ≤ m → m ≤ BLOCK_LIMIT → has m (numbers_in set) ≡ has m (numbers_in other)) → (m : ℕ) → has m (numbers_in set) ≡ has m (numbers_in other)
same-inside set other each m =
    elim (cases_lt m 1) [
      | inl below ↦ has-outside set m (inl below) ∙ sym (has-outside other m (inl below))
      | inr low ↦
          elim (cases_lt BLOCK_LIMIT m) [
            | inl above ↦ has-outside set m (inr above) ∙ sym (has-outside other m (inr above))
            | inr high ↦ each m low high
          ]
    ]

-- HOW MANY ARE THERE

rising-append : (k more low : ℕ) → rising (k + more) low ≡ rising k low ++ rising more (low + k)
rising-append zero more low =
    let none : 0 + more ≡ more = omega arith in
    let here : low ≡ low + 0 = omega arith in
    ap (λ n. rising n low) none ∙ ap (λ n. rising more n) here
rising-append (suc k) more low =
    let one : suc k + more ≡ suc (k + more) = omega arith in
    let next : suc low + k ≡ low + suc k = omega arith in
    ap (λ n. rising n low) one ∙ ap (λ ns. low ∷ ns) (rising-append k more (suc low) ∙ ap (λ n. rising k (suc low) ++ rising more n) next)

-- a word has as many set bits as there are numbers that pass, if each bit is set when its number does
ones-rising : (test : ℕ → Bool) (count word low : ℕ) → word < 2 ^ count → ((i : ℕ) → i < count → test (low + i) ≡ (bit_at word i == 1)) → count_ones word ≡ length (filter test (rising count low))
ones-rising test zero word low fits tells = omega (arith, ones_le_self word)
ones-rising test (suc count) word low fits tells =
    let rest = filter test (rising count (suc low)) in
    let later : count_ones (word / 2) ≡ length rest =
    ones-rising test count (word / 2) (suc low) (omega (arith, pow-suc 2 count))
    (λ i lt. (let e : suc low + i ≡ low + suc i = omega arith in ap test e) ∙ (tells (suc i) (omega (arith, lt)) ∙ ap (λ bit. bit == 1) (bit_at-suc word i)))
    in
    let first : test low ≡ (word % 2 == 1) = (let e : low ≡ low + 0 = omega arith in ap test e) ∙ (tells 0 (omega arith) ∙ ap (λ bit. bit == 1) (bit_at_lowest word)) in
    cond_both (test low) (low ∷ rest) rest (λ ns. count_ones word ≡ length ns)
    (λ is. omega (arith, ones_step word, later, eqb-true (word % 2) 1 (sym first ∙ is)))
    (λ is. grind (arith, ones_step word, later, eqb-false (word % 2) 1 (sym first ∙ is)))

pub count-numbers : (set : Set) → set.low < 2 ^ 64 → set.high < 2 ^ 64 → count_ones set.low + count_ones set.high ≡ length (numbers_in set)
unfolding numbers_in
count-numbers set fits fits2 =
    let below = rising 64 1 in
    let above = rising 64 65 in
    let halves : rising BLOCK_LIMIT 1 ≡ below ++ above = rising-append 64 64 1 in
    let parts : length (filter (is_member set) (rising BLOCK_LIMIT 1)) ≡ length (filter (is_member set) below) + length (filter (is_member set) above) =
    ap (λ ns. length (filter (is_member set) ns)) halves ∙ (ap (λ (ns : List ℕ). length ns) (filter-append (is_member set) below above) ∙ length-append (filter (is_member set) below) (filter (is_member set) above))
    in
    let lower : count_ones set.low ≡ length (filter (is_member set) below) = ones-rising (is_member set) 64 set.low 1 fits (λ i lt. ap (λ bit. bit == 1) (sym (at-low set i lt))) in
    let upper : count_ones set.high ≡ length (filter (is_member set) above) = ones-rising (is_member set) 64 set.high 65 fits2 (λ i lt. ap (λ bit. bit == 1) (sym (at-high set i))) in
    omega (arith, parts, lower, upper)
