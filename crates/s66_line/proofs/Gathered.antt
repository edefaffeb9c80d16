-- The terms of an operand gathered one after the other, and all at once.
use Rattle.std.proofs.Common.{◌≡◌, ◌≤◌, ℕ, suc, Bool, true, false, List, [], ◌∷◌, ◌++◌, Option, None, Some, length, refl, ◌∙◌, arith, nat_lt, nat_le, is_some, ◌||◌, ◌&&◌, if◌then◌else◌, not}
use Rattle.std.proofs.Common.{true≢false, append-nil, option_and_then}
use Rattle.std.proofs.lemmas.Bool.Decides.{nat_tests}
use Rattle.s66_isa.specs.{Bank}
use Rattle.s66_line.specs.{are_terms, some_constant, with_sign, registers_of, register_of, is_constant, is_constant_from, is_filled, is_symbol, with_term, with_register}

-- what these terms make after what was seen before them
abbrev pub gathered_after : Bool × List (Bool × Bank × ℕ) → List (Bool × List ℕ) → Option (Bool × List (Bool × Bank × ℕ))
gathered_after seen ts =
    if are_terms ts && nat_le (length (seen.1 ++ registers_of ts)) 2 then Some (seen.0 || some_constant ts, seen.1 ++ registers_of ts) else None

and_false : (a b d : Bool) → (a && b && not true && d) ≡ false
and_false true true d = refl
and_false true false d = refl
and_false false b d = refl

-- no register is a constant
pub register-no_constant : (term : List ℕ) (r : Bank × ℕ) → register_of term ≡ Some r → is_constant term ≡ false
register-no_constant term r e = rw e (and_false (is_filled term) (is_constant_from 0 term) (not (is_symbol term)))

third-full : (n : ℕ) → nat_lt (suc (suc n)) 2 ≡ false
third-full n = grind (arith, nat_tests)

third-many : (n : ℕ) → nat_le (suc (suc (suc n))) 2 ≡ false
third-many n = grind (arith, nat_tests)

many : (test : Bool) (more : List (Bool × Bank × ℕ)) (s : Bool × Bank × ℕ) (rest : List (Bool × Bank × ℕ)) → (test && nat_le (suc (suc (length (more ++ (s ∷ rest))))) 2) ≡ false
many true [] s rest = third-many (length rest)
many true (t ∷ more) s rest = third-many (length (more ++ (s ∷ rest)))
many false more s rest = refl

-- of a term is known whether it is a constant, and its register
abbrev put : Bool × List (Bool × Bank × ℕ) → Bool → Bool → Option (Bank × ℕ) → List (Bool × List ℕ) → Option (Bool × List (Bool × Bank × ℕ))
put seen minus constant r ts =
    if (is_some r || constant) && are_terms ts && nat_le (length (seen.1 ++ (with_sign minus r ++ registers_of ts))) 2 then Some (seen.0 || (constant || some_constant ts), seen.1 ++ (with_sign minus r ++ registers_of ts)) else None

put-is : (seen : Bool × List (Bool × Bank × ℕ)) (minus constant : Bool) (r : Option (Bank × ℕ)) (ts : List (Bool × List ℕ)) → ((s : Bank × ℕ) → r ≡ Some s → constant ≡ false) →
    put seen minus constant r ts ≡ option_and_then (λ m. gathered_after m ts) (with_register seen minus constant r)
put-is seen minus false None ts h = refl
put-is (true, rs) minus true None ts h = refl
put-is (false, rs) minus true None ts h = refl
put-is seen minus true (Some r) ts h = absurd (true≢false (h r refl))
put-is (c, []) minus false (Some r) ts h = refl
put-is (c, a ∷ []) minus false (Some r) ts h = refl
put-is (c, a ∷ b ∷ more) minus false (Some r) ts h = rw (third-full (length more), many (are_terms ts) more (minus, r.0, r.1) (registers_of ts)) refl

pub gathered_after-cons : (seen : Bool × List (Bool × Bank × ℕ)) (minus : Bool) (term : List ℕ) (ts : List (Bool × List ℕ)) →
    gathered_after seen ((minus, term) ∷ ts) ≡ option_and_then (λ m. gathered_after m ts) (with_term seen minus term)
gathered_after-cons seen minus term ts = put-is seen minus (is_constant term) (register_of term) ts (λ r e. register-no_constant term r e)

with_register-last : (seen : Bool × List (Bool × Bank × ℕ)) (minus constant : Bool) (r : Option (Bank × ℕ)) → length seen.1 ≤ 2 →
    option_and_then (λ m. gathered_after m []) (with_register seen minus constant r) ≡ with_register seen minus constant r
with_register-last seen minus false None h = refl
with_register-last (c, rs) minus true None h =
    let few : nat_le (length rs) 2 ≡ true = grind (arith, nat_tests) in
    rw (append-nil, few) refl
with_register-last (true, []) minus constant (Some r) h = refl
with_register-last (false, []) minus constant (Some r) h = refl
with_register-last (true, a ∷ []) minus constant (Some r) h = refl
with_register-last (false, a ∷ []) minus constant (Some r) h = refl
with_register-last (c, a ∷ b ∷ more) minus constant (Some r) h = rw (third-full (length more)) refl

pub gathered_after-last : (seen : Bool × List (Bool × Bank × ℕ)) (minus : Bool) (term : List ℕ) → length seen.1 ≤ 2 →
    gathered_after seen ((minus, term) ∷ []) ≡ with_term seen minus term
gathered_after-last seen minus term h = gathered_after-cons seen minus term [] ∙ with_register-last seen minus (is_constant term) (register_of term) h
