-- The forms of a set instruction are 0 to 7, and so are its digits.
use Rattle.std.proofs.Common.{◌≡◌, subst, ◌≤◌, ◌==◌, ℕ, Bool, true, false, List, [], ◌∷◌, ◌++◌, Option, None, Some, IfSome, lit≤}
use Rattle.s66_isa.specs.{Bank, A, B, X}
use Rattle.s66_line.specs.{is_octal, with_sign, register_of, registers_of, some_constant, with_constant, without_constant, set_form_of}
use Rattle.s66_line.proofs.Digits.{either, octal-few}

abbrev Few : List (Bool × Bank × ℕ) → Type 0
Few [] = Unit {0}
Few (r ∷ registers) = (r.2 ≤ 7) × Few registers

register-few : (term : List ℕ) → IfSome (register_of term) (λ r. r.1 ≤ 7)
register-few (a ∷ d ∷ []) =
    either _ (is_octal d) _ _
    (λ e. either _ (a == 65) _ _ (λ t. octal-few d e)
    (λ t. either _ (a == 66) _ _ (λ t. octal-few d e)
    (λ t. either _ (a == 88) _ _ (λ t. octal-few d e) (λ t. tt))))
    (λ e. tt)
register-few other = tt

Few-with_sign : (minus : Bool) (r : Option (Bank × ℕ)) (registers : List (Bool × Bank × ℕ)) → IfSome r (λ s. s.1 ≤ 7) → Few registers → Few (with_sign minus r ++ registers)
Few-with_sign minus None registers h few = few
Few-with_sign minus (Some r) registers h few = (h, few)

registers-few : (ts : List (Bool × List ℕ)) → Few (registers_of ts)
registers-few [] = tt
registers-few (t ∷ ts) = Few-with_sign t.0 (register_of t.1) (registers_of ts) (register-few t.1) (registers-few ts)

abbrev pub IsSetForm : ℕ × ℕ × ℕ → Type 0
IsSetForm f = (f.0 ≤ 7) × (f.1 ≤ 7) × (f.2 ≤ 7)

with-few : (registers : List (Bool × Bank × ℕ)) → Few registers → IfSome (with_constant registers) IsSetForm
with-few [] h = (lit≤ tt, lit≤ tt, lit≤ tt)
with-few ((false, A, j) ∷ []) h = (lit≤ tt, h.0, lit≤ tt)
with-few ((false, B, j) ∷ []) h = (lit≤ tt, h.0, lit≤ tt)
with-few ((false, X, j) ∷ []) h = (lit≤ tt, h.0, lit≤ tt)
with-few other h = tt

without-few : (registers : List (Bool × Bank × ℕ)) → Few registers → IfSome (without_constant registers) IsSetForm
without-few ((false, X, j) ∷ []) h = (lit≤ tt, h.0, lit≤ tt)
without-few ((false, A, j) ∷ []) h = (lit≤ tt, h.0, lit≤ tt)
without-few ((false, B, j) ∷ []) h = (lit≤ tt, h.0, lit≤ tt)
without-few ((true, B, k) ∷ []) h = (lit≤ tt, lit≤ tt, h.0)
without-few ((false, X, j) ∷ (false, B, k) ∷ []) h = (lit≤ tt, h.0, h.1.0)
without-few ((false, B, k) ∷ (false, X, j) ∷ []) h = (lit≤ tt, h.1.0, h.0)
without-few ((false, A, j) ∷ (false, B, k) ∷ []) h = (lit≤ tt, h.0, h.1.0)
without-few ((false, B, k) ∷ (false, A, j) ∷ []) h = (lit≤ tt, h.1.0, h.0)
without-few ((false, A, j) ∷ (true, B, k) ∷ []) h = (lit≤ tt, h.0, h.1.0)
without-few ((true, B, k) ∷ (false, A, j) ∷ []) h = (lit≤ tt, h.1.0, h.0)
without-few ((false, B, j) ∷ (false, B, k) ∷ []) h = (lit≤ tt, h.0, h.1.0)
without-few ((false, B, j) ∷ (true, B, k) ∷ []) h = (lit≤ tt, h.0, h.1.0)
without-few ((true, B, k) ∷ (false, B, j) ∷ []) h = (lit≤ tt, h.1.0, h.0)
without-few other h = tt

pub set_form-few : (ts : List (Bool × List ℕ)) → IfSome (set_form_of ts) IsSetForm
set_form-few ts =
    either _ (some_constant ts) _ _
    (λ e. with-few (registers_of ts) (registers-few ts))
    (λ e. without-few (registers_of ts) (registers-few ts))

pub within : (terms : List (Bool × List ℕ)) (f : ℕ × ℕ × ℕ) → set_form_of terms ≡ Some f → f.0 ≤ 7
within terms f e = (subst (λ o. IfSome o IsSetForm) e (set_form-few terms)).0
