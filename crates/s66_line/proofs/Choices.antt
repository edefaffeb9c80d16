-- The codes from which an operand chooses, by the syntax of its operation.
use Rattle.std.proofs.Common.{◌≡◌, ◌≤◌, ◌+◌, ◌==◌, ◌&&◌, ℕ, List, [], ◌∷◌, ◌++◌, Option, None, Some, IfSome, option_and_then, refl, inl, inr, arith, lit≤}
use Rattle.std.proofs.lemmas.Option.{IfSome_then}
use Rattle.s66_isa.specs.{Instr, Bank, A, B, X, Among, instr}
use Rattle.s66_isa.proofs.Lists.{rising-among}
use Rattle.s66_line.specs.{boolean_operator, boolean, b_and_x, is_expression, shift, normalise, mask, arithmetic_code, arithmetic, population, terms_of, are_terms, set_code, set, decode, at_most_one}
use Rattle.s66_line.specs.{choices, Syntax, Boolean, Shift, Normalise, Arithmetic, Mask, Population, Set}
use Rattle.s66_line.proofs.Digits.{either, made, IsDigit, AreDigits, digit-few, two-few, b_and_x-few}
use Rattle.s66_line.proofs.SetForms.{IsSetForm, set_form-few}

-- the instruction has one of these codes, this digit i, and other digits
abbrev pub Chosen : List ℕ → ℕ → Instr → Type 0
Chosen meanings i n = Among n.op.code meanings × (n.i ≡ i) × (n.j ≤ 7) × (n.k ≤ 7)

among-choices : (bank : Bank) (f : ℕ) → f ≤ 7 → Among (set_code bank + f) (choices (Set bank))
among-choices A f h = rising-among 8 0o50 (0o50 + f) (omega arith) (omega (arith, h))
among-choices B f h = rising-among 8 0o60 (0o60 + f) (omega arith) (omega (arith, h))
among-choices X f h = rising-among 8 0o70 (0o70 + f) (omega arith) (omega (arith, h))

-- BOOLEAN

operator-few : (o : ℕ) → IfSome (boolean_operator o) (λ f. f ≤ 3)
operator-few o =
    either _ (o == 42) _ _ (λ e. lit≤ tt)
    (λ e. either _ (o == 43) _ _ (λ e. lit≤ tt)
    (λ e. either _ (o == 45) _ _ (λ e. lit≤ tt) (λ e. tt)))

chosen-boolean : (i : ℕ) (text : List ℕ) → IfSome (boolean i text) (Chosen (choices Boolean) i)
chosen-boolean i (a ∷ d ∷ []) = made IsDigit _ _ _ (digit-few 88 a d) (λ j few. (inl refl, refl, few, lit≤ tt))
chosen-boolean i (s ∷ a ∷ d ∷ []) =
    either _ (s == 45) _ _
    (λ e. made IsDigit _ _ _ (digit-few 88 a d)
    (λ k few. (rising-among 8 0o10 0o14 (lit≤ tt) (lit≤ tt), refl, lit≤ tt, few)))
    (λ e. tt)
chosen-boolean i (a ∷ d ∷ o ∷ c ∷ e ∷ []) =
    made (λ f. f ≤ 3) _ _ _ (operator-few o)
    (λ f least. made AreDigits _ _ _ (two-few a d c e)
    (λ r few. (rising-among 8 0o10 (0o10 + f) (omega arith) (omega (arith, least)), refl, few.0, few.1)))
chosen-boolean i (s ∷ a ∷ d ∷ o ∷ c ∷ e ∷ []) =
    either _ (s == 45) _ _
    (λ minus. made (λ f. f ≤ 3) _ _ _ (operator-few o)
    (λ f least. made AreDigits _ _ _ (two-few a d c e)
    (λ r few. (rising-among 8 0o10 (0o14 + f) (omega arith) (omega (arith, least)), refl, few.1, few.0))))
    (λ minus. tt)
chosen-boolean i other = tt

-- SHIFTS

-- an instruction of these two digits
chosen-two : (meanings : List ℕ) (code i : ℕ) (text : List ℕ) → i ≤ 7 → Among code meanings → IfSome (option_and_then (λ r. Some (instr code i r.0 r.1)) (b_and_x i text)) (Chosen meanings i)
chosen-two meanings code i text h among = made AreDigits _ _ _ (b_and_x-few i text h) (λ r few. (among, refl, few.0, few.1))

chosen-shift : (by_constant by_register i : ℕ) (text : List ℕ) → i ≤ 7 → IfSome (shift by_constant by_register i text) (Chosen (by_constant ∷ by_register ∷ []) i)
chosen-shift by_constant by_register i text h =
    either _ (is_expression text) _ _
    (λ e. (inl refl, refl, lit≤ tt, lit≤ tt))
    (λ e. chosen-two (by_constant ∷ by_register ∷ []) by_register i text h (inr (inl refl)))

chosen-normalise : (code i : ℕ) (text : List ℕ) → i ≤ 7 → IfSome (normalise code i text) (Chosen (code ∷ []) i)
chosen-normalise code i [] h = (inl refl, refl, lit≤ tt, h)
chosen-normalise code i (b ∷ text) h = chosen-two (code ∷ []) code i (b ∷ text) h (inl refl)

chosen-mask : (i : ℕ) (text : List ℕ) → IfSome (mask i text) (Chosen (choices Mask) i)
chosen-mask i text = either _ (is_expression text) _ _ (λ e. (inl refl, refl, lit≤ tt, lit≤ tt)) (λ e. tt)

-- SUMS, PRODUCTS, QUOTIENTS

among-one : (product quotient : Option ℕ) → IfSome product (λ code. Among code (at_most_one product ++ at_most_one quotient))
among-one None quotient = tt
among-one (Some code) quotient = inl refl

among-other : (product quotient : Option ℕ) → IfSome quotient (λ code. Among code (at_most_one product ++ at_most_one quotient))
among-other product None = tt
among-other None (Some code) = inl refl
among-other (Some first) (Some code) = inr (inl refl)

arithmetic-among : (sum difference : ℕ) (product quotient : Option ℕ) (o : ℕ) → IfSome (arithmetic_code sum difference product quotient o) (λ code. Among code (choices (Arithmetic sum difference product quotient)))
arithmetic-among sum difference product quotient o =
    either _ (o == 43) _ _ (λ e. inl refl)
    (λ e. either _ (o == 45) _ _ (λ e. inr (inl refl))
    (λ e. either _ (o == 42) _ _ (λ e. IfSome_then product (among-one product quotient) (λ code h. inr (inr h)))
    (λ e. either _ (o == 47) _ _ (λ e. IfSome_then quotient (among-other product quotient) (λ code h. inr (inr h))) (λ e. tt))))

chosen-arithmetic : (sum difference : ℕ) (product quotient : Option ℕ) (i : ℕ) (text : List ℕ) →
    IfSome (arithmetic sum difference product quotient i text) (Chosen (choices (Arithmetic sum difference product quotient)) i)
chosen-arithmetic sum difference product quotient i (a ∷ d ∷ o ∷ c ∷ e ∷ []) =
    made (λ code. Among code (choices (Arithmetic sum difference product quotient))) _ _ _ (arithmetic-among sum difference product quotient o)
    (λ code among. made AreDigits _ _ _ (two-few a d c e) (λ r few. (among, refl, few.0, few.1)))
chosen-arithmetic sum difference product quotient i (s ∷ a ∷ d ∷ o ∷ c ∷ e ∷ []) =
    either _ (s == 45 && o == 43) _ _
    (λ t. made AreDigits _ _ _ (two-few a d c e) (λ r few. (inr (inl refl), refl, few.1, few.0)))
    (λ t. tt)
chosen-arithmetic sum difference product quotient i other = tt

chosen-population : (i : ℕ) (text : List ℕ) → IfSome (population i text) (Chosen (choices Population) i)
chosen-population i (a ∷ d ∷ []) = made IsDigit _ _ _ (digit-few 88 a d) (λ k few. (inl refl, refl, lit≤ tt, few))
chosen-population i other = tt

-- SET INSTRUCTIONS

chosen-set : (bank : Bank) (i : ℕ) (text : List ℕ) → IfSome (set bank i text) (Chosen (choices (Set bank)) i)
chosen-set bank i text =
    either _ (are_terms (terms_of text)) _ _
    (λ e. made IsSetForm _ _ _ (set_form-few (terms_of text))
    (λ f few. (among-choices bank f.0 few.0, refl, few.1, few.2)))
    (λ e. tt)

-- ALL

pub chosen : (syntax : Syntax) (i : ℕ) (text : List ℕ) → i ≤ 7 → IfSome (decode syntax i text) (Chosen (choices syntax) i)
chosen Boolean i text h = chosen-boolean i text
chosen (Shift by_constant by_register) i text h = chosen-shift by_constant by_register i text h
chosen (Normalise code) i text h = chosen-normalise code i text h
chosen (Arithmetic sum difference product quotient) i text h = chosen-arithmetic sum difference product quotient i text
chosen Mask i text h = chosen-mask i text
chosen Population i text h = chosen-population i text
chosen (Set bank) i text h = chosen-set bank i text
