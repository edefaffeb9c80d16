-- What spells an instruction holds no newline and no carriage return, so the text of one is one line.
use Rattle.std.proofs.Common.{◌≡◌, ◌==◌, ◌&&◌, ◌||◌, ℕ, Bool, true, false, not, if◌then◌else◌, true≢false, List, [], ◌∷◌, ◌++◌, Option, None, Some, IfSome, is_some, option_and_then, ◌-◌, refl, sym}
use Rattle.std.proofs.Common.{ap, ◌∙◌, subst, lit<, eqb-true}
use Rattle.std.proofs.lemmas.Bool.{and_parts, and_from, or_parts, not-true}
use Rattle.std.proofs.lemmas.Option.{IfSome_then}
use Rattle.s66_isa.specs.{Instr, Bank, every, instr}
use Rattle.s66_line.specs.{is_newline, is_return, upper, spelling, operation_in, operand_in, IsInstruction, is_octal, x_digit, b_digit, may_stand, is_constant_from, register_of, is_filled, is_symbol}
use Rattle.s66_line.specs.{is_constant, is_sign, terms_from, terms_of, is_expression, boolean_operator, boolean, two_x, b_and_x, shift, normalise, mask, arithmetic_code, arithmetic, population}
use Rattle.s66_line.specs.{are_terms, set, set_form_of, syntax_of, decode, operation_of, instr_of, Syntax, Boolean, Shift, Normalise, Arithmetic, Mask, Population, Set}
use Rattle.s66_line.proofs.Digits.{either, made}
use Rattle.s66_line.proofs.LineFields.{every-push}
use Rattle.s66_line.proofs.Wholes.{is_inside, every-append}
use Rattle.s66_line.proofs.UpperCase.{kept}

abbrev pub ends_no_line : ℕ → Bool
ends_no_line b = not (is_newline b || is_return b)

abbrev pub EndsNoLine : List ℕ → Type 0
EndsNoLine bytes = every ends_no_line bytes ≡ true

-- BYTES

-- what a newline and a carriage return don't pass
passes-ends_no_line : (test : ℕ → Bool) → test 10 ≡ false → test 13 ≡ false → (b : ℕ) → test b ≡ true → ends_no_line b ≡ true
passes-ends_no_line test newline return b h = by_test (b == 10) (b == 13) refl refl
  where
    by_test : (t u : Bool) → (b == 10) ≡ t → (b == 13) ≡ u → not (t || u) ≡ true
    by_test true u stated other = absurd (true≢false (sym h ∙ ap test (eqb-true b 10 stated) ∙ newline))
    by_test false true other stated = absurd (true≢false (sym h ∙ ap test (eqb-true b 13 stated) ∙ return))
    by_test false false stated other = refl

two : (a d : ℕ) → ends_no_line a ≡ true → ends_no_line d ≡ true → EndsNoLine (a ∷ d ∷ [])
two a d h k = rw (h, k) refl

one-more : (b : ℕ) (bytes : List ℕ) → ends_no_line b ≡ true → EndsNoLine bytes → EndsNoLine (b ∷ bytes)
one-more b bytes h k = and_from (ends_no_line b) (every ends_no_line bytes) h k

-- two bytes, one, and two
five : (a d o c e : ℕ) → EndsNoLine (a ∷ d ∷ []) → ends_no_line o ≡ true → EndsNoLine (c ∷ e ∷ []) → EndsNoLine (a ∷ d ∷ o ∷ c ∷ e ∷ [])
five a d o c e h m k =
    let front = and_parts (ends_no_line a) (ends_no_line d && true) h in
    one-more a (d ∷ o ∷ c ∷ e ∷ []) front.0 (one-more d (o ∷ c ∷ e ∷ []) (and_parts (ends_no_line d) true front.1).0 (one-more o (c ∷ e ∷ []) m k))

-- REGISTERS

register-at : (test : ℕ → Bool) (a d : ℕ) → test 10 ≡ false → test 13 ≡ false → (test a && is_octal d) ≡ true → EndsNoLine (a ∷ d ∷ [])
register-at test a d newline return h =
    let both = and_parts (test a) (is_octal d) h in
    two a d (passes-ends_no_line test newline return a both.0) (passes-ends_no_line is_octal refl refl d both.1)

x-register : (a d : ℕ) → IfSome (x_digit a d) (λ j. EndsNoLine (a ∷ d ∷ []))
x-register a d = either _ (a == 88 && is_octal d) _ _ (λ e. register-at (λ b. b == 88) a d refl refl e) (λ e. tt)

b-register : (a d : ℕ) → IfSome (b_digit a d) (λ j. EndsNoLine (a ∷ d ∷ []))
b-register a d = either _ (a == 66 && is_octal d) _ _ (λ e. register-at (λ b. b == 66) a d refl refl e) (λ e. tt)

abbrev Both : ℕ → ℕ → ℕ → ℕ → ℕ × ℕ → Type 0
Both a d c e r = EndsNoLine (a ∷ d ∷ []) × EndsNoLine (c ∷ e ∷ [])

two-registers : (a d c e : ℕ) → IfSome (two_x a d c e) (Both a d c e)
two-registers a d c e =
    made (λ x. EndsNoLine (a ∷ d ∷ [])) _ _ _ (x-register a d) (λ x h. made (λ y. EndsNoLine (c ∷ e ∷ [])) _ _ _ (x-register c e) (λ y k. (h, k)))

both-registers : (a d c e : ℕ) → IfSome (option_and_then (λ j. option_and_then (λ k. Some (j, k)) (x_digit c e)) (b_digit a d)) (Both a d c e)
both-registers a d c e =
    made (λ x. EndsNoLine (a ∷ d ∷ [])) _ _ _ (b-register a d) (λ x h. made (λ y. EndsNoLine (c ∷ e ∷ [])) _ _ _ (x-register c e) (λ y k. (h, k)))

b_and_x-ends_no_line : (i : ℕ) (text : List ℕ) → IfSome (b_and_x i text) (λ r. EndsNoLine text)
b_and_x-ends_no_line i (a ∷ d ∷ []) =
    either _ (is_some (b_digit a d)) _ _
    (λ t. made (λ x. EndsNoLine (a ∷ d ∷ [])) _ _ _ (b-register a d) (λ x h. h))
    (λ t. made (λ x. EndsNoLine (a ∷ d ∷ [])) _ _ _ (x-register a d) (λ x h. h))
b_and_x-ends_no_line i (a ∷ d ∷ o ∷ c ∷ e ∷ []) =
    either _ (not (o == 44)) _ _ (λ t. tt)
    (λ t. let comma : ends_no_line o ≡ true = passes-ends_no_line (λ b. not (not (b == 44))) refl refl o (ap not t) in
    either _ (is_some (b_digit a d)) _ _
    (λ t. IfSome_then _ (both-registers a d c e) (λ r h. five a d o c e h.0 comma h.1))
    (λ t. IfSome_then _ (both-registers c e a d) (λ r h. five a d o c e h.1 comma h.0)))
b_and_x-ends_no_line i other = tt

-- TERMS

constant-ends_no_line : (last : ℕ) (bytes : List ℕ) → is_constant_from last bytes ≡ true → EndsNoLine bytes
constant-ends_no_line last [] h = refl
constant-ends_no_line last (b ∷ bytes) h =
    let both = and_parts (may_stand last b bytes) (is_constant_from b bytes) h in
    one-more b bytes (passes-ends_no_line (λ c. may_stand last c bytes) refl refl b both.0) (constant-ends_no_line b bytes both.1)

name-ends_no_line : (term : List ℕ) → IfSome (register_of term) (λ r. EndsNoLine term)
name-ends_no_line (a ∷ d ∷ []) =
    either _ (is_octal d) _ _
    (λ e. let digit : ends_no_line d ≡ true = passes-ends_no_line is_octal refl refl d e in
    either _ (a == 65) _ _ (λ t. two a d (passes-ends_no_line (λ b. b == 65) refl refl a t) digit)
    (λ t. either _ (a == 66) _ _ (λ t. two a d (passes-ends_no_line (λ b. b == 66) refl refl a t) digit)
    (λ t. either _ (a == 88) _ _ (λ t. two a d (passes-ends_no_line (λ b. b == 88) refl refl a t) digit) (λ t. tt))))
    (λ e. tt)
name-ends_no_line other = tt

abbrev is_term : List ℕ → Bool
is_term term = is_some (register_of term) || is_constant term

is_constant-ends_no_line : (term : List ℕ) → is_constant term ≡ true → EndsNoLine term
is_constant-ends_no_line term h =
    let outer = and_parts (is_filled term && is_constant_from 0 term && not (is_some (register_of term))) (not (is_symbol term)) h in
    let inner = and_parts (is_filled term && is_constant_from 0 term) (not (is_some (register_of term))) outer.0 in
    constant-ends_no_line 0 term (and_parts (is_filled term) (is_constant_from 0 term) inner.0).1

is_term-ends_no_line : (term : List ℕ) → is_term term ≡ true → EndsNoLine term
is_term-ends_no_line term h = by_name (register_of term) (name-ends_no_line term) h
  where
    by_name : (r : Option (Bank × ℕ)) → IfSome r (λ s. EndsNoLine term) → (is_some r || is_constant term) ≡ true → EndsNoLine term
    by_name None named h = is_constant-ends_no_line term h
    by_name (Some s) named h = named

sign-ends_no_line : (b : ℕ) → is_sign b ≡ true → ends_no_line b ≡ true
sign-ends_no_line b h = passes-ends_no_line is_sign refl refl b h

-- if each term that is cut out has none, the text has none
cut-ends_no_line : (test : List ℕ → Bool) → ((term : List ℕ) → test term ≡ true → EndsNoLine term) → (minus : Bool) (term bytes : List ℕ) →
    every (λ (t : Bool × List ℕ). test t.1) (terms_from minus term bytes) ≡ true → EndsNoLine term × EndsNoLine bytes
cut-ends_no_line test passes minus term [] h = (passes term (and_parts (test term) true h).0, refl)
cut-ends_no_line test passes minus term (b ∷ bytes) h =
    by_sign (is_sign b) refl (cut-ends_no_line test passes (b == 45) [] bytes) (cut-ends_no_line test passes minus (term ++ b ∷ []) bytes) h
  where
    by_sign : (t : Bool) → is_sign b ≡ t → (every (λ (t : Bool × List ℕ). test t.1) (terms_from (b == 45) [] bytes) ≡ true → EndsNoLine [] × EndsNoLine bytes) →
        (every (λ (t : Bool × List ℕ). test t.1) (terms_from minus (term ++ b ∷ []) bytes) ≡ true → EndsNoLine (term ++ b ∷ []) × EndsNoLine bytes) →
        every (λ (t : Bool × List ℕ). test t.1) (if t then (minus, term) ∷ terms_from (b == 45) [] bytes else terms_from minus (term ++ b ∷ []) bytes) ≡ true → EndsNoLine term × EndsNoLine (b ∷ bytes)
    by_sign true stated cut longer h =
        let both = and_parts (test term) (every (λ (t : Bool × List ℕ). test t.1) (terms_from (b == 45) [] bytes)) h in
        (passes term both.0, one-more b bytes (sign-ends_no_line b stated) (cut both.1).1)
    by_sign false stated cut longer h =
        let rest = longer h in
        let both = and_parts (every ends_no_line term) (ends_no_line b) (sym (every-push ends_no_line term b) ∙ rest.0) in
        (both.0, one-more b bytes both.1 rest.1)

terms-ends_no_line : (test : List ℕ → Bool) → ((term : List ℕ) → test term ≡ true → EndsNoLine term) → (text : List ℕ) → every (λ (t : Bool × List ℕ). test t.1) (terms_of text) ≡ true → EndsNoLine text
terms-ends_no_line test passes [] h = refl
terms-ends_no_line test passes (b ∷ bytes) h = by_sign (is_sign b) refl h
  where
    by_sign : (t : Bool) → is_sign b ≡ t → every (λ (t : Bool × List ℕ). test t.1) (if t then terms_from (b == 45) [] bytes else terms_from false [] (b ∷ bytes)) ≡ true → EndsNoLine (b ∷ bytes)
    by_sign true stated h = one-more b bytes (sign-ends_no_line b stated) (cut-ends_no_line test passes (b == 45) [] bytes h).1
    by_sign false stated h = (cut-ends_no_line test passes false [] (b ∷ bytes) h).1

expression-ends_no_line : (text : List ℕ) → is_expression text ≡ true → EndsNoLine text
expression-ends_no_line text h = terms-ends_no_line is_constant is_constant-ends_no_line text (and_parts (is_filled text) (every (λ t. is_constant t.1) (terms_of text)) h).1

-- OPERANDS

operator-ends_no_line : (o : ℕ) → IfSome (boolean_operator o) (λ f. ends_no_line o ≡ true)
operator-ends_no_line o =
    either _ (o == 42) _ _ (λ e. passes-ends_no_line (λ b. b == 42) refl refl o e)
    (λ e. either _ (o == 43) _ _ (λ e. passes-ends_no_line (λ b. b == 43) refl refl o e)
    (λ e. either _ (o == 45) _ _ (λ e. passes-ends_no_line (λ b. b == 45) refl refl o e) (λ e. tt)))

minus-ends_no_line : (s : ℕ) → (s == 45) ≡ true → ends_no_line s ≡ true
minus-ends_no_line s e = passes-ends_no_line (λ b. b == 45) refl refl s e

boolean-ends_no_line : (i : ℕ) (text : List ℕ) → IfSome (boolean i text) (λ n. EndsNoLine text)
boolean-ends_no_line i (a ∷ d ∷ []) = made (λ j. EndsNoLine (a ∷ d ∷ [])) _ _ _ (x-register a d) (λ j h. h)
boolean-ends_no_line i (s ∷ a ∷ d ∷ []) =
    either _ (s == 45) _ _ (λ e. made (λ j. EndsNoLine (a ∷ d ∷ [])) _ _ _ (x-register a d) (λ k h. one-more s (a ∷ d ∷ []) (minus-ends_no_line s e) h)) (λ e. tt)
boolean-ends_no_line i (a ∷ d ∷ o ∷ c ∷ e ∷ []) =
    made (λ f. ends_no_line o ≡ true) _ _ _ (operator-ends_no_line o) (λ f m. made (Both a d c e) _ _ _ (two-registers a d c e) (λ r h. five a d o c e h.0 m h.1))
boolean-ends_no_line i (s ∷ a ∷ d ∷ o ∷ c ∷ e ∷ []) =
    either _ (s == 45) _ _
    (λ minus. made (λ f. ends_no_line o ≡ true) _ _ _ (operator-ends_no_line o)
    (λ f m. made (Both a d c e) _ _ _ (two-registers a d c e) (λ r h. one-more s (a ∷ d ∷ o ∷ c ∷ e ∷ []) (minus-ends_no_line s minus) (five a d o c e h.0 m h.1))))
    (λ minus. tt)
boolean-ends_no_line i other = tt

two-ends_no_line : (code i : ℕ) (text : List ℕ) → IfSome (option_and_then (λ r. Some (instr code i r.0 r.1)) (b_and_x i text)) (λ n. EndsNoLine text)
two-ends_no_line code i text = made (λ r. EndsNoLine text) _ _ _ (b_and_x-ends_no_line i text) (λ r h. h)

shift-ends_no_line : (by_constant by_register i : ℕ) (text : List ℕ) → IfSome (shift by_constant by_register i text) (λ n. EndsNoLine text)
shift-ends_no_line by_constant by_register i text = either _ (is_expression text) _ _ (λ e. expression-ends_no_line text e) (λ e. two-ends_no_line by_register i text)

normalise-ends_no_line : (code i : ℕ) (text : List ℕ) → IfSome (normalise code i text) (λ n. EndsNoLine text)
normalise-ends_no_line code i [] = refl
normalise-ends_no_line code i (b ∷ text) = two-ends_no_line code i (b ∷ text)

mask-ends_no_line : (i : ℕ) (text : List ℕ) → IfSome (mask i text) (λ n. EndsNoLine text)
mask-ends_no_line i text = either _ (is_expression text) _ _ (λ e. expression-ends_no_line text e) (λ e. tt)

-- a quotient is the last of four choices
arithmetic-operator : (sum difference : ℕ) (product quotient : Option ℕ) (o : ℕ) → IfSome (arithmetic_code sum difference product quotient o) (λ code. ends_no_line o ≡ true)
arithmetic-operator sum difference product quotient o =
    either _ (o == 43) _ _ (λ e. passes-ends_no_line (λ b. b == 43) refl refl o e)
    (λ e. either _ (o == 45) _ _ (λ e. passes-ends_no_line (λ b. b == 45) refl refl o e)
    (λ e. either _ (o == 42) _ _ (λ e. all product (passes-ends_no_line (λ b. b == 42) refl refl o e))
    (λ e. either _ (o == 47) _ _ (λ e. all quotient (passes-ends_no_line (λ b. b == 47) refl refl o e)) (λ e. tt))))
  where
    all : (code : Option ℕ) → ends_no_line o ≡ true → IfSome code (λ c. ends_no_line o ≡ true)
    all None h = tt
    all (Some c) h = h

arithmetic-ends_no_line : (sum difference : ℕ) (product quotient : Option ℕ) (i : ℕ) (text : List ℕ) → IfSome (arithmetic sum difference product quotient i text) (λ n. EndsNoLine text)
arithmetic-ends_no_line sum difference product quotient i (a ∷ d ∷ o ∷ c ∷ e ∷ []) =
    made (λ code. ends_no_line o ≡ true) _ _ _ (arithmetic-operator sum difference product quotient o) (λ code m. made (Both a d c e) _ _ _ (two-registers a d c e) (λ r h. five a d o c e h.0 m h.1))
arithmetic-ends_no_line sum difference product quotient i (s ∷ a ∷ d ∷ o ∷ c ∷ e ∷ []) =
    either _ (s == 45 && o == 43) _ _
    (λ t. let both = and_parts (s == 45) (o == 43) t in
    made (Both a d c e) _ _ _ (two-registers a d c e)
    (λ r h. one-more s (a ∷ d ∷ o ∷ c ∷ e ∷ []) (minus-ends_no_line s both.0) (five a d o c e h.0 (passes-ends_no_line (λ b. b == 43) refl refl o both.1) h.1)))
    (λ t. tt)
arithmetic-ends_no_line sum difference product quotient i other = tt

population-ends_no_line : (i : ℕ) (text : List ℕ) → IfSome (population i text) (λ n. EndsNoLine text)
population-ends_no_line i (a ∷ d ∷ []) = made (λ j. EndsNoLine (a ∷ d ∷ [])) _ _ _ (x-register a d) (λ k h. h)
population-ends_no_line i other = tt

set-ends_no_line : (bank : Bank) (i : ℕ) (text : List ℕ) → IfSome (set bank i text) (λ n. EndsNoLine text)
set-ends_no_line bank i text =
    either _ (are_terms (terms_of text)) _ _ (λ e. made (λ f. Unit {0}) _ _ _ (any (set_form_of (terms_of text))) (λ f h. terms-ends_no_line is_term is_term-ends_no_line text e)) (λ e. tt)
  where
    any : (form : Option (ℕ × ℕ × ℕ)) → IfSome form (λ f. Unit {0})
    any None = tt
    any (Some f) = tt

decode-ends_no_line : (syntax : Syntax) (i : ℕ) (text : List ℕ) → IfSome (decode syntax i text) (λ n. EndsNoLine text)
decode-ends_no_line Boolean i text = boolean-ends_no_line i text
decode-ends_no_line (Shift by_constant by_register) i text = shift-ends_no_line by_constant by_register i text
decode-ends_no_line (Normalise code) i text = normalise-ends_no_line code i text
decode-ends_no_line (Arithmetic sum difference product quotient) i text = arithmetic-ends_no_line sum difference product quotient i text
decode-ends_no_line Mask i text = mask-ends_no_line i text
decode-ends_no_line Population i text = population-ends_no_line i text
decode-ends_no_line (Set bank) i text = set-ends_no_line bank i text

-- OPERATIONS

abbrev no_syntax : Option Syntax
no_syntax = None

first-letter : (p q : ℕ) → is_some (syntax_of p q) ≡ true → ends_no_line p ≡ true
first-letter p q h = passes-ends_no_line (λ p. is_some (syntax_of p q)) (none (q == 88)) (none (q == 88)) p h
  where
    none : (t : Bool) → is_some (if t then no_syntax else no_syntax) ≡ false
    none true = refl
    none false = refl

second-letter : (p q : ℕ) → is_some (syntax_of p q) ≡ true → ends_no_line q ≡ true
second-letter p q h = passes-ends_no_line (λ q. is_some (syntax_of p q)) (none (p == 83)) (none (p == 83)) q h
  where
    none : (t : Bool) → is_some (if t then no_syntax else no_syntax) ≡ false
    none true = refl
    none false = refl

-- an operation of the table has three bytes, none of which ends a line
abbrev IsWord : List ℕ → Type 0
IsWord operation = EndsNoLine operation × (is_filled operation ≡ true)

operation-ends_no_line : (operation : List ℕ) → IfSome (operation_of operation) (λ o. IsWord operation)
operation-ends_no_line (p ∷ q ∷ d ∷ []) =
    either _ (is_octal d) _ _ (λ e. letters (syntax_of p q) refl e) (λ e. tt)
  where
    letters : (syntax : Option Syntax) → syntax_of p q ≡ syntax → is_octal d ≡ true → IfSome {T = Syntax × ℕ} (option_and_then (λ s. Some (s, d - 48)) syntax) (λ o. IsWord (p ∷ q ∷ d ∷ []))
    letters None stated e = tt
    letters (Some s) stated e =
        (one-more p (q ∷ d ∷ []) (first-letter p q (ap is_some stated)) (two q d (second-letter p q (ap is_some stated)) (passes-ends_no_line is_octal refl refl d e)), refl)
operation-ends_no_line other = tt

-- AN INSTRUCTION

all-ends_no_line : (operation text : List ℕ) → IfSome (instr_of operation text) (λ n. IsWord operation × EndsNoLine text)
all-ends_no_line operation text = made (λ o. IsWord operation) _ (λ o. decode o.0 o.1 text) _ (operation-ends_no_line operation) (λ o h. more (decode o.0 o.1 text) (decode-ends_no_line o.0 o.1 text) h)
  where
    more : (n : Option Instr) → IfSome n (λ n. EndsNoLine text) → IsWord operation → IfSome n (λ n. IsWord operation × EndsNoLine text)
    more None h k = tt
    more (Some n) h k = (k, h)

pub spelled-ends_no_line : (operation text : List ℕ) (n : Instr) → instr_of operation text ≡ Some n → (EndsNoLine operation × (is_filled operation ≡ true)) × EndsNoLine text
spelled-ends_no_line operation text n e = subst (λ o. IfSome o (λ n. IsWord operation × EndsNoLine text)) e (all-ends_no_line operation text)

-- letters in upper case
pub ends_no_line-upper : (bytes : List ℕ) → every ends_no_line (upper bytes) ≡ every ends_no_line bytes
ends_no_line-upper [] = refl
ends_no_line-upper (b ∷ bytes) = rw (kept b 10 (lit< tt), kept b 13 (lit< tt), ends_no_line-upper bytes) refl

-- ITS TEXT

no_newline : (bytes : List ℕ) → EndsNoLine bytes → every is_inside bytes ≡ true
no_newline [] h = refl
no_newline (b ∷ bytes) h =
    let both = and_parts (ends_no_line b) (every ends_no_line bytes) h in
    let inside = or_parts (is_newline b) (is_return b) (not-true (is_newline b || is_return b) both.0) in
    and_from (is_inside b) (every is_inside bytes) (ap not inside.0) (no_newline bytes both.1)

inside-spelling : (operation operand : List ℕ) → every is_inside operation ≡ true → every is_inside operand ≡ true → every is_inside (spelling operation operand) ≡ true
inside-spelling operation [] h k = h
inside-spelling operation (b ∷ operand) h k = every-append is_inside operation (32 ∷ b ∷ operand) h k

-- the text of an instruction has no newline
pub one-line : (text : List ℕ) → IsInstruction text → every is_inside text ≡ true
one-line text is =
    let clean = spelled-ends_no_line (operation_in text) (operand_in text) is.instr is.is_text.spells in
    ap (every is_inside) is.is_text.whole ∙ inside-spelling (operation_in text) (operand_in text) (no_newline (operation_in text) clean.0.0) (no_newline (operand_in text) clean.1)
