-- Each code is spelled, with all digits.
use Rattle.std.proofs.Common.{◌≡◌, ◌≤◌, ◌+◌, ◌-◌, ◌==◌, ◌&&◌, ℕ, true, false, map, Some, refl, arith, nat_le, le-leb, ne_eqb}
use Rattle.std.proofs.lemmas.Bool.{and_from, or_left, or_right}
use Rattle.s66_line.specs.{is_octal, is_letter_or_digit, is_near, instr_of, spellings}

octal-digit : (d : ℕ) → d ≤ 7 → is_octal (48 + d) ≡ true
octal-digit d h = and_from (nat_le 48 (48 + d)) (nat_le (48 + d) 55) (le-leb 48 (48 + d) (omega arith)) (le-leb (48 + d) 55 (omega (arith, h)))

digit-back : (d : ℕ) → 48 + d - 48 ≡ d
digit-back d = omega arith

plus-no : (d : ℕ) → (48 + d == 43) ≡ false
plus-no d = ne_eqb (48 + d) 43 (λ e. omega (arith, e))

minus-no : (d : ℕ) → (48 + d == 45) ≡ false
minus-no d = ne_eqb (48 + d) 45 (λ e. omega (arith, e))

near-digit : (d : ℕ) → d ≤ 7 → is_near (48 + d) ≡ true
near-digit d h = or_left (is_letter_or_digit (48 + d)) (48 + d == 46) (or_right (nat_le 65 (48 + d) && nat_le (48 + d) 90) (nat_le 48 (48 + d) && nat_le (48 + d) 57) (and_from (nat_le 48 (48 + d)) (nat_le (48 + d) 57) (le-leb 48 (48 + d) (omega arith)) (le-leb (48 + d) 57 (omega (arith, h)))))

pub instr_of-spellings : (i j k : ℕ) → i ≤ 7 → j ≤ 7 → k ≤ 7 → map (λ row. instr_of row.0 row.1) (spellings i j k) ≡ map (λ row. Some row.2) (spellings i j k)
instr_of-spellings i j k a b c = rw (octal-digit i a, octal-digit j b, octal-digit k c, digit-back i, digit-back j, digit-back k, plus-no j, plus-no k, minus-no j, minus-no k, near-digit j b, near-digit k c, octal-digit j b, octal-digit k c, digit-back j, digit-back k) refl
