-- A number is read as what it is written.
use Rattle.std.specs.Int.{IsInRange}
use Rattle.std.proofs.Common.{◌≡◌, ◌≤◌, ◌<◌, ◌^◌, ◌&&◌, ℕ, zero, suc, Bool, true, false, not, List, [], ◌∷◌, length, get_or, Some, refl, sym, ap, ◌∙◌, arith, leb, eqb, le-leb, leb-true, ne_eqb}
use Rattle.std.proofs.Common.{decimal}
use Rattle.std.proofs.lemmas.Bool.{not-true, and_parts, and_from, eqb-false, not_from_false}
use Rattle.std.proofs.lemmas.Option.{cond_some}
use Rattle.std.proofs.lemmas.Fmt.{digits_decimal, digits_value-decimal, decimal_nonempty, first_decimal, decimal_digit, decimal-digits_value}
use Rattle.std.proofs.lemmas.Str.Parse.{IsDigitsTest, FoldsDigits, IsNumeralModel, numerals_by_fold}
use Rattle.s66_isa.specs.{every}
use Rattle.s66_line.specs.{is_decimal}
use Rattle.s66_cert.specs.{value_after, has_no_leading_zero, is_number, number_in}

-- DIGITS

abbrev pub AreDigits : List ℕ → Type 0
AreDigits ds = every is_decimal ds ≡ true

digit-range : (b : ℕ) → is_decimal b ≡ true → IsInRange 48 57 b
digit-range b h = let both = and_parts (leb 48 b) (leb b 57) h in (leb-true 48 b both.0, leb-true b 57 both.1)

range-digit : (b : ℕ) → IsInRange 48 57 b → is_decimal b ≡ true
range-digit b h = and_from (leb 48 b) (leb b 57) (le-leb 48 b h.0) (le-leb b 57 h.1)

tells : IsDigitsTest AreDigits
tells = record {
  empty = refl;
  parts = λ c cs h. (let both = and_parts (is_decimal c) (every is_decimal cs) h in (digit-range c both.0, both.1));
  more = λ c cs h k. and_from (is_decimal c) (every is_decimal cs) (range-digit c h) k;
}

folds : FoldsDigits value_after
folds = record { empty = λ n. refl; more = λ n c cs h. refl }

pub own : IsNumeralModel AreDigits (value_after 0)
own = numerals_by_fold AreDigits tells value_after folds

pub decimal-digits : (n : ℕ) → n < 2 ^ 64 → AreDigits (decimal n)
decimal-digits n h = digits_decimal own n h

-- AGAIN

plain-cases : (w : List ℕ) → 0 < length w → 48 < get_or w 0 0 → has_no_leading_zero w ≡ true
plain-cases [] some first = absurd (omega arith)
plain-cases (d ∷ []) some first = refl
plain-cases (d ∷ e ∷ ds) some first = not_from_false (eqb d 48) (ne_eqb d 48 (λ h. omega (arith, first, h)))

decimal-plain : (n : ℕ) → n < 2 ^ 64 → has_no_leading_zero (decimal n) ≡ true
decimal-plain zero h = ap has_no_leading_zero (decimal_digit 0 (omega arith))
decimal-plain (suc n) h = plain-cases (decimal (suc n)) (decimal_nonempty (suc n) h) (first_decimal (suc n) (omega arith) h)

pub decimal-value : (n : ℕ) → n < 2 ^ 64 → value_after 0 (decimal n) ≡ n
decimal-value n h = digits_value-decimal own n h

pub number-again : (low high n : ℕ) → n < 2 ^ 64 → low ≤ n → n ≤ high → number_in low high (decimal n) ≡ Some n
number-again low high n fits above below =
    let number : is_number (decimal n) ≡ true = and_from (has_no_leading_zero (decimal n)) (every is_decimal (decimal n)) (decimal-plain n fits) (decimal-digits n fits) in
    let same : value_after 0 (decimal n) ≡ n = decimal-value n fits in
    rw (same, number, le-leb low n above, le-leb n high below) refl

-- AND NOTHING ELSE

-- no zero comes before a second digit
first-plain : (w : List ℕ) → has_no_leading_zero w ≡ true → get_or w 0 0 ≡ 48 → length w ≡ 1
first-plain [] plain e = absurd (cc)
first-plain (d ∷ []) plain e = refl
first-plain (d ∷ e ∷ ds) plain same = absurd (let is : eqb d 48 ≡ false = not-true (eqb d 48) plain in eqb-false d 48 is same)

some-plain : (w : List ℕ) → has_no_leading_zero w ≡ true → 0 < length w
some-plain [] plain = absurd (cc)
some-plain (d ∷ ds) plain = omega arith

pub number-is : (low high n : ℕ) (w : List ℕ) → high < 2 ^ 64 → number_in low high w ≡ Some n → (w ≡ decimal n) × (low ≤ n) × (n ≤ high)
number-is low high n w fits h =
    let got = cond_some (is_number w && leb low (value_after 0 w) && leb (value_after 0 w) high) (value_after 0 w) n h in
    let three = and_parts (is_number w && leb low (value_after 0 w)) (leb (value_after 0 w) high) got.0 in
    let two = and_parts (is_number w) (leb low (value_after 0 w)) three.0 in
    let number = and_parts (has_no_leading_zero w) (every is_decimal w) two.0 in
    let above : low ≤ value_after 0 w = leb-true low (value_after 0 w) two.1 in
    let below : value_after 0 w ≤ high = leb-true (value_after 0 w) high three.1 in
    let is : value_after 0 w ≡ n = got.1 in
    let same : decimal (value_after 0 w) ≡ w = decimal-digits_value own w number.1 (some-plain w number.0) (λ same. first-plain w number.0 same) (omega arith) in
    (sym same ∙ ap decimal is, omega arith, omega arith)

-- no number has a blank or a newline

-- another byte than this
abbrev pub is_other : ℕ → ℕ → Bool
is_other c b = not (eqb b c)

pub digits-clear : (c : ℕ) (ds : List ℕ) → (IsInRange 48 57 c → ⊥) → AreDigits ds → every (is_other c) ds ≡ true
digits-clear c [] out h = refl
digits-clear c (d ∷ ds) out h =
    let both = and_parts (is_decimal d) (every is_decimal ds) h in
    let range = digit-range d both.0 in
    let differs : eqb d c ≡ false = ne_eqb d c (λ same. out (omega (arith, range.0, same), omega (arith, range.1, same))) in
    and_from (is_other c d) (every (is_other c) ds) (not_from_false (eqb d c) differs) (digits-clear c ds out both.1)

pub decimal-clear : (c n : ℕ) → (IsInRange 48 57 c → ⊥) → n < 2 ^ 64 → every (is_other c) (decimal n) ≡ true
decimal-clear c n out h = digits-clear c (decimal n) out (decimal-digits n h)
