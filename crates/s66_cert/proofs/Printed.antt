-- A text that is pushed part by part, a number of up to three digits, and a list from a place on.
use Rattle.std.proofs.Common.{◌≡◌, ◌<◌, ◌+◌, ℕ, suc, drop, get_or, add-one, drop-cons, List, [], ◌∷◌, ◌++◌, length, sym, ap, ◌∙◌, append_assoc, decimal, ◌≤◌, ◌/◌, ◌%◌, ◌^◌, arith}
use Rattle.std.proofs.lemmas.Fmt.{decimal_digit}
use Rattle.itoa.proofs.Decimal.{pair, decimal_two, decimal_pair}

pub parts-pushed : (out one two three four five a b c d e f : List ℕ) → one ≡ out ++ a → two ≡ one ++ b → three ≡ two ++ c → four ≡ three ++ d → five ≡ four ++ e →
    five ++ f ≡ out ++ (a ++ b ++ c ++ d ++ e ++ f)
parts-pushed out one two three four five a b c d e f first second third fourth fifth = rw (fifth, fourth, third, second, first) (simp append_assoc)

pub head-pushed : (out one two three a version b profile c count d : List ℕ) → one ≡ out ++ a ++ version → two ≡ one ++ (b ++ profile) → three ≡ two ++ c ++ count →
    three ++ d ≡ out ++ (a ++ version ++ b ++ profile ++ c ++ count ++ d)
head-pushed out one two three a version b profile c count d first second third = rw (third, second, first) (simp append_assoc)

-- A NUMBER OF UP TO THREE DIGITS

pub one_digit : (n : ℕ) → n < 10 → decimal n ≡ (48 + n) ∷ []
one_digit n few = decimal_digit n few

pub two_digits : (n : ℕ) → 10 ≤ n → n < 100 → decimal n ≡ (48 + n / 10) ∷ (48 + n % 10) ∷ []
two_digits n low few = decimal_two n low few

pub three_digits : (n : ℕ) → 100 ≤ n → n < 2 ^ 8 → decimal n ≡ (48 + n / 100) ∷ (48 + n % 100 / 10) ∷ (48 + n % 10) ∷ []
three_digits n low high =
    let last : n % 100 % 10 ≡ n % 10 = omega arith in
    decimal_pair n low (omega (arith, high)) ∙ ap (λ ds. ds ++ pair (n % 100)) (decimal_digit (n / 100) (omega (arith, high)))
    ∙ ap (λ d. (48 + n / 100) ∷ (48 + n % 100 / 10) ∷ (48 + d) ∷ []) last

-- A LIST FROM A PLACE ON

-- what stands there, and then the others
pub drop-here : {X : Type 0} (xs : List X) (i : ℕ) (x : X) → i < length xs → x ≡ get_or xs i x → drop i xs ≡ x ∷ drop (i + 1) xs
drop-here xs i x within is = rw add-one (drop-cons xs i x within ∙ ap (λ y. y ∷ drop (suc i) xs) (sym is))
