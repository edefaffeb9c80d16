-- Each digit that an operand spells is at most 7, as the number of a register is.
use Rattle.std.proofs.Common.{◌≡◌, ◌≤◌, ◌+◌, ◌-◌, ◌==◌, ◌&&◌, ℕ, Bool, true, false, not, if◌then◌else◌, List, [], ◌∷◌, Option, None, Some, IfSome, option_and_then, is_some, arith, nat_le, leb-true}
use Rattle.std.proofs.Common.{lit≤}
use Rattle.std.proofs.lemmas.Bool.{cond_both, and_parts}
use Rattle.s66_line.specs.{is_octal, digit_of, x_digit, b_digit, two_x, b_and_x}

-- OPTIONS

-- what holds of each branch under its test holds of the choice
pub either : {T : Type 0} (P : T → Type 0) (b : Bool) (o p : Option T) → (b ≡ true → IfSome o P) → (b ≡ false → IfSome p P) → IfSome (if b then o else p) P
either P b o p on_true on_false = cond_both b o p (λ o. IfSome o P) on_true on_false

-- what holds of all that is made of the first value holds of what comes out
pub made : {T U : Type 0} (P : T → Type 0) (Q : U → Type 0) (f : T → Option U) (o : Option T) → IfSome o P → ((x : T) → P x → IfSome (f x) Q) → IfSome (option_and_then f o) Q
made P Q f None h g = tt
made P Q f (Some x) h g = g x h

-- DIGITS

abbrev pub IsDigit : ℕ → Type 0
IsDigit d = d ≤ 7

abbrev pub AreDigits : ℕ × ℕ → Type 0
AreDigits r = (r.0 ≤ 7) × (r.1 ≤ 7)

pub octal-few : (d : ℕ) → is_octal d ≡ true → d - 48 ≤ 7
octal-few d e = let h = leb-true d 55 (and_parts (nat_le 48 d) (nat_le d 55) e).1 in omega (arith, h)

pub octal-written : (d : ℕ) → is_octal d ≡ true → d ≡ 48 + (d - 48)
octal-written d e = let h = leb-true 48 d (and_parts (nat_le 48 d) (nat_le d 55) e).0 in omega (arith, h)

pub digit-few : (letter a d : ℕ) → IfSome (digit_of letter a d) IsDigit
digit-few letter a d = either _ (a == letter && is_octal d) _ _ (λ e. octal-few d (and_parts (a == letter) (is_octal d) e).1) (λ e. tt)

pub two-few : (a d c e : ℕ) → IfSome (two_x a d c e) AreDigits
two-few a d c e =
    made IsDigit _ _ _ (digit-few 88 a d) (λ x few. made IsDigit _ _ _ (digit-few 88 c e) (λ y more. (few, more)))

-- A B AND AN X REGISTER

two-alone : (i a d : ℕ) → i ≤ 7 → IfSome (b_and_x i (a ∷ d ∷ [])) AreDigits
two-alone i a d h =
    either _ (is_some (b_digit a d)) _ _
    (λ e. made IsDigit _ _ _ (digit-few 66 a d) (λ j few. (few, h)))
    (λ e. made IsDigit _ _ _ (digit-few 88 a d) (λ k few. (lit≤ tt, few)))

-- the digits of a B and of an X register
both-few : (a d c e : ℕ) → IfSome (option_and_then (λ j. option_and_then (λ k. Some (j, k)) (x_digit c e)) (b_digit a d)) AreDigits
both-few a d c e =
    made IsDigit _ _ _ (digit-few 66 a d) (λ j few. made IsDigit _ _ _ (digit-few 88 c e) (λ k more. (few, more)))

two-insert : (i a d o c e : ℕ) → IfSome (b_and_x i (a ∷ d ∷ o ∷ c ∷ e ∷ [])) AreDigits
two-insert i a d o c e =
    either _ (not (o == 44)) _ _ (λ t. tt)
    (λ t. either _ (is_some (b_digit a d)) _ _ (λ t. both-few a d c e) (λ t. both-few c e a d))

pub b_and_x-few : (i : ℕ) (text : List ℕ) → i ≤ 7 → IfSome (b_and_x i text) AreDigits
b_and_x-few i (a ∷ d ∷ []) h = two-alone i a d h
b_and_x-few i (a ∷ d ∷ o ∷ c ∷ e ∷ []) h = two-insert i a d o c e
b_and_x-few i other h = tt
