-- What an operation and its operand spell is an instruction of the table, with digits 0 to 7 (`operation_law`).
use Rattle.std.proofs.Common.{Bool, ◌&&◌, not, leb, true≢false, ◌≡◌, ◌≤◌, ◌<◌, ◌+◌, ◌-◌, ◌==◌, ℕ, zero, suc, true, List, [], ◌∷◌, length, get_or, None, Some, IfSome, refl, sym, ap, ◌∙◌, subst, inl}
use Rattle.std.proofs.Common.{inr, arith, eqb-true, lit<, leb-true, eq-eqb}
use Rattle.std.proofs.lemmas.Option.{IfSome_then}
use Rattle.std.proofs.lemmas.Bool.{and_parts}
use Rattle.s66_isa.specs.{Instr, A, B, X, Among, every, IsCode}
use Rattle.s66_isa.proofs.Lists.{every-each}
use Rattle.s66_line.specs.{is_octal, syntax_of, decode, operation_of, instr_of, choices, IsOfTheTable, operations, CanMean, Syntax, Boolean, Shift, Normalise, Arithmetic, Mask, Population, Set}
use Rattle.s66_line.proofs.Digits.{either, made, octal-few, octal-written}
use Rattle.s66_line.proofs.Choices.{Chosen, chosen}

-- A ROW OF THE TABLE

pub among-at : {X : Type 0} (xs : List X) (n : ℕ) (d : X) → n < length xs → Among (get_or xs n d) xs
among-at [] n d h = absurd (omega (arith, h))
among-at (x ∷ xs) zero d h = inl refl
among-at (x ∷ xs) (suc n) d h = inr (among-at xs n d (omega (arith, h)))

at_row : (n : ℕ) → n < 16 → Among (get_or operations n ([], [])) operations
at_row n h = among-at operations n ([], []) h

-- these two letters and the choices of their syntax are a row of the table
abbrev Listed : ℕ → ℕ → Syntax → Type 0
Listed p q syntax = Among (p ∷ q ∷ [], choices syntax) operations

listed : (p q a b : ℕ) (syntax : Syntax) → Listed a b syntax → (p == a) ≡ true → (q == b) ≡ true → Listed p q syntax
listed p q a b syntax h e f = rw (eqb-true p a e, eqb-true q b f) h

all-listed : (p q : ℕ) → IfSome (syntax_of p q) (Listed p q)
all-listed p q =
    either _ (q == 88) _ _
    (λ x. either _ (p == 66) _ _ (λ e. listed p q 66 88 Boolean (at_row 0 (lit< tt)) e x)
    (λ e. either _ (p == 76) _ _ (λ e. listed p q 76 88 (Shift 0o20 0o22) (at_row 1 (lit< tt)) e x)
    (λ e. either _ (p == 65) _ _ (λ e. listed p q 65 88 (Shift 0o21 0o23) (at_row 2 (lit< tt)) e x)
    (λ e. either _ (p == 78) _ _ (λ e. listed p q 78 88 (Normalise 0o24) (at_row 3 (lit< tt)) e x)
    (λ e. either _ (p == 90) _ _ (λ e. listed p q 90 88 (Normalise 0o25) (at_row 4 (lit< tt)) e x)
    (λ e. either _ (p == 85) _ _ (λ e. listed p q 85 88 (Normalise 0o26) (at_row 5 (lit< tt)) e x)
    (λ e. either _ (p == 80) _ _ (λ e. listed p q 80 88 (Normalise 0o27) (at_row 6 (lit< tt)) e x)
    (λ e. either _ (p == 70) _ _ (λ e. listed p q 70 88 (Arithmetic 0o30 0o31 (Some 0o40) (Some 0o44)) (at_row 7 (lit< tt)) e x)
    (λ e. either _ (p == 68) _ _ (λ e. listed p q 68 88 (Arithmetic 0o32 0o33 (Some 0o42) None) (at_row 8 (lit< tt)) e x)
    (λ e. either _ (p == 82) _ _ (λ e. listed p q 82 88 (Arithmetic 0o34 0o35 (Some 0o41) (Some 0o45)) (at_row 9 (lit< tt)) e x)
    (λ e. either _ (p == 73) _ _ (λ e. listed p q 73 88 (Arithmetic 0o36 0o37 None None) (at_row 10 (lit< tt)) e x)
    (λ e. either _ (p == 77) _ _ (λ e. listed p q 77 88 Mask (at_row 11 (lit< tt)) e x)
    (λ e. either _ (p == 67) _ _ (λ e. listed p q 67 88 Population (at_row 12 (lit< tt)) e x)
    (λ e. either _ (p == 83) _ _ (λ e. listed p q 83 88 (Set X) (at_row 15 (lit< tt)) e x)
    (λ e. tt)))))))))))))))
    (λ x. either _ (p == 83) _ _
    (λ s. either _ (q == 65) _ _ (λ e. listed p q 83 65 (Set A) (at_row 13 (lit< tt)) s e)
    (λ e. either _ (q == 66) _ _ (λ e. listed p q 83 66 (Set B) (at_row 14 (lit< tt)) s e)
    (λ e. tt)))
    (λ s. tt))

-- WHAT IT CAN MEAN

can_mean : (p q d : ℕ) (syntax : Syntax) (n : Instr) → is_octal d ≡ true → Listed p q syntax → Chosen (choices syntax) (d - 48) n → CanMean (p ∷ q ∷ d ∷ []) n
can_mean p q d syntax n e row h =
    record {
      letters = p ∷ q ∷ [];
      meanings = choices syntax;
      listed = row;
      written = ap (λ c. p ∷ q ∷ c ∷ []) (octal-written d e ∙ ap (λ i. 48 + i) (sym h.1));
      code = h.0;
      digits = (rw h.1 (octal-few d e), h.2, h.3);
    }

-- the digit of an operation, and what its syntax can choose
abbrev Decoded : List ℕ → Syntax × ℕ → Type 0
Decoded operation o = (o.1 ≤ 7) × ((n : Instr) → Chosen (choices o.0) o.1 n → CanMean operation n)

class_of_operand : (operation : List ℕ) → IfSome (operation_of operation) (Decoded operation)
class_of_operand (p ∷ q ∷ d ∷ []) =
    either _ (is_octal d) _ _
    (λ e. made (Listed p q) _ _ _ (all-listed p q) (λ syntax row. (octal-few d e, λ n h. can_mean p q d syntax n e row h)))
    (λ e. tt)
class_of_operand other = tt

meaning : (operation text : List ℕ) → IfSome (instr_of operation text) (CanMean operation)
meaning operation text =
    made (Decoded operation) _ (λ o. decode o.0 o.1 text) _ (class_of_operand operation) (λ o h. IfSome_then (decode o.0 o.1 text) (chosen o.0 o.1 text h.0) h.1)

pub CanMean-instr_of : (operation text : List ℕ) (n : Instr) → instr_of operation text ≡ Some n → CanMean operation n
CanMean-instr_of operation text n e = subst (λ o. IfSome o (CanMean operation)) e (meaning operation text)

-- what a syntax decodes is what its operand chooses
pub Chosen-decode : (syntax : Syntax) (i : ℕ) (text : List ℕ) (n : Instr) → i ≤ 7 → decode syntax i text ≡ Some n → Chosen (choices syntax) i n
Chosen-decode syntax i text n few e = subst (λ o. IfSome o (Chosen (choices syntax) i)) e (chosen syntax i text few)

-- ITS CODES ARE OF THE TABLE

abbrev is_code : ℕ → Bool
is_code code = leb 0o10 code && (leb code 0o77 && not (code == 0o46))

IsCode-is_code : (code : ℕ) → is_code code ≡ true → IsCode code
IsCode-is_code code is =
    let (low, rest) = and_parts (leb 0o10 code) (leb code 0o77 && not (code == 0o46)) is in
    let (high, other) = and_parts (leb code 0o77) (not (code == 0o46)) rest in
    (leb-true 0o10 code low, leb-true code 0o77 high, λ same. absurd (true≢false (sym other ∙ ap not (eq-eqb code 0o46 same))))

listed-codes : (p q : ℕ) (syntax : Syntax) → Listed p q syntax → IsOfTheTable syntax
listed-codes p q syntax row = λ code among.
    let all = every-each (λ (row : List ℕ × List ℕ). every is_code row.1) (p ∷ q ∷ [], choices syntax) operations refl row in
    IsCode-is_code code (every-each is_code code (choices syntax) all among)

pub IsOfTheTable-syntax_of : (p q : ℕ) (syntax : Syntax) → syntax_of p q ≡ Some syntax → IsOfTheTable syntax
IsOfTheTable-syntax_of p q syntax e = listed-codes p q syntax (subst (λ o. IfSome o (Listed p q)) e (all-listed p q))
