-- An operand is an expression without registers exactly if its terms gather to none, for shifts and masks.
use Rattle.std.proofs.Common.{◌≡◌, ℕ, Bool, true, false, List, [], ◌∷◌, ◌++◌, Option, None, Some, length, refl, sym, ap, arith, ◌∙◌, ◌==◌, nat_le, is_some, ◌||◌, ◌&&◌, if◌then◌else◌, true≢false}
use Rattle.std.proofs.Math.Bool.{and-false}
use Rattle.std.proofs.lemmas.Bool.Decides.{nat_tests}
use Rattle.s66_isa.specs.{Bank, every}
use Rattle.s66_line.specs.{are_terms, some_constant, with_sign, registers_of, register_of, is_constant, is_expression, terms_of, gather}
use Rattle.s66_line.proofs.Gathered.{register-no_constant}

abbrev is_nil : List (Bool × Bank × ℕ) → Bool
is_nil [] = true
is_nil (s ∷ more) = false

abbrev pub no_register : Option (Bool × List (Bool × Bank × ℕ)) → Bool
no_register None = false
no_register (Some seen) = is_nil seen.1

abbrev all_constant : List (Bool × List ℕ) → Bool
all_constant ts = every (λ t. is_constant t.1) ts

one-more : (minus constant : Bool) (r : Option (Bank × ℕ)) (ts : List (Bool × List ℕ)) → ((s : Bank × ℕ) → r ≡ Some s → constant ≡ false) → all_constant ts ≡ (are_terms ts && is_nil (registers_of ts)) →
    (constant && all_constant ts) ≡ (((is_some r || constant) && are_terms ts) && is_nil (with_sign minus r ++ registers_of ts))
one-more minus false None ts h e = refl
one-more minus true None ts h e = e
one-more minus true (Some r) ts h e = absurd (true≢false (h r refl))
one-more minus false (Some r) ts h e = sym (and-false (are_terms ts))

all_constant-is : (ts : List (Bool × List ℕ)) → all_constant ts ≡ (are_terms ts && is_nil (registers_of ts))
all_constant-is [] = refl
all_constant-is (t ∷ ts) = one-more t.0 (is_constant t.1) (register_of t.1) ts (λ r e. register-no_constant t.1 r e) (all_constant-is ts)

never : (test constant : Bool) (s : Bool × Bank × ℕ) (more : List (Bool × Bank × ℕ)) → false ≡ no_register (if test then Some (constant, s ∷ more) else None)
never true constant s more = refl
never false constant s more = refl

no_register-if : (test constant : Bool) (registers : List (Bool × Bank × ℕ)) →
    (test && is_nil registers) ≡ no_register (if test && nat_le (length registers) 2 then Some (constant, registers) else None)
no_register-if false constant registers = refl
no_register-if true constant [] = refl
no_register-if true constant (s ∷ more) = never (nat_le (length (s ∷ more)) 2) constant s more

pub all_constant-gathered : (ts : List (Bool × List ℕ)) → every (λ t. is_constant t.1) ts ≡ no_register (gather ts)
all_constant-gathered ts = all_constant-is ts ∙ no_register-if (are_terms ts) (some_constant ts) (registers_of ts)

length-is_nil : (registers : List (Bool × Bank × ℕ)) → (length registers == 0) ≡ is_nil registers
length-is_nil [] = refl
length-is_nil (s ∷ more) = grind (arith, nat_tests)

pub expression-none : (text : List ℕ) → None ≡ gather (terms_of text) → false ≡ is_expression text
expression-none [] e = refl
expression-none (b ∷ bytes) e = ap no_register e ∙ sym (all_constant-gathered (terms_of (b ∷ bytes)))

pub expression-some : (text : List ℕ) (seen : Bool × List (Bool × Bank × ℕ)) → false ≡ (length text == 0) → Some seen ≡ gather (terms_of text) →
    (length seen.1 == 0) ≡ is_expression text
expression-some [] seen filled e = absurd (true≢false (sym filled))
expression-some (b ∷ bytes) seen filled e = length-is_nil seen.1 ∙ ap no_register e ∙ sym (all_constant-gathered (terms_of (b ∷ bytes)))
