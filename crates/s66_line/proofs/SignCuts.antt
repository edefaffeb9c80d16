-- A text cut at its signs, by the places where a term starts and ends.
use Rattle.std.proofs.Common.{◌≡◌, Option, None, Some, ◌+◌, ◌-◌, ◌<◌, ◌≤◌, ◌==◌, ℕ, Bool, true, false, List, [], ◌∷◌, ◌++◌, length, get_or, take, drop, sym, ap, ◌∙◌, arith, if◌then◌else◌, get_or-drop}
use Rattle.std.proofs.Common.{length-drop, option_and_then}
use Rattle.std.proofs.lemmas.List.{at_drop_more, at_drop_all, take_more}
use Rattle.s66_isa.specs.{Bank}
use Rattle.s66_line.specs.{terms_from, is_sign, with_term}
use Rattle.s66_line.proofs.Gathered.{gathered_after, gathered_after-cons, gathered_after-last}

-- whether a constant, and the registers
abbrev Seen : Type 0
Seen = Bool × List (Bool × Bank × ℕ)

-- the term that is begun
abbrev pub begun_at : List ℕ → ℕ → ℕ → List ℕ
begun_at text start end = take (end - start) (drop start text)

-- one step of terms_from, by whether the byte is a sign
abbrev step : Bool → List ℕ → ℕ → List ℕ → Bool → List (Bool × List ℕ)
step minus term b bytes sign = if sign then (minus, term) ∷ terms_from (b == 45) [] bytes else terms_from minus (term ++ b ∷ []) bytes

pub terms_from-sign : (minus : Bool) (term text : List ℕ) (end : ℕ) → end < length text → is_sign (get_or text end 0) ≡ true →
    terms_from minus term (drop end text) ≡ (minus, term) ∷ terms_from (get_or text end 0 == 45) [] (drop (end + 1) text)
terms_from-sign minus term text end h e =
    at_drop_more (terms_from minus term) text end 0 h ∙ ap (step minus term (get_or text end 0) (drop (end + 1) text)) e

pub one_more : (text : List ℕ) (start end : ℕ) → start ≤ end → end < length text →
    take (end + 1 - start) (drop start text) ≡ take (end - start) (drop start text) ++ get_or text end 0 ∷ []
one_more text start end begin_run h =
    let count : end + 1 - start ≡ end - start + 1 = omega arith in
    let index : start + (end - start) ≡ end = omega arith in
    let here : get_or (drop start text) (end - start) 0 ≡ get_or text end 0 = get_or-drop start text (end - start) 0 ∙ ap (λ (i : ℕ). get_or text i 0) index in
    ap (λ (n : ℕ). take n (drop start text)) count ∙ take_more (drop start text) (end - start) 0 (omega (arith, length-drop start text)) ∙ ap (λ (b : ℕ). take (end - start) (drop start text) ++ b ∷ []) here

pub terms_from-other : (minus : Bool) (text : List ℕ) (start end : ℕ) → start ≤ end → end < length text → is_sign (get_or text end 0) ≡ false →
    terms_from minus (take (end - start) (drop start text)) (drop end text) ≡ terms_from minus (take (end + 1 - start) (drop start text)) (drop (end + 1) text)
terms_from-other minus text start end begin_run h e =
    at_drop_more (terms_from minus (take (end - start) (drop start text))) text end 0 h
    ∙ ap (step minus (take (end - start) (drop start text)) (get_or text end 0) (drop (end + 1) text)) e
    ∙ ap (λ (t : List ℕ). terms_from minus t (drop (end + 1) text)) (sym (one_more text start end begin_run h))

cut : (m : Seen) (minus : Bool) (text : List ℕ) (start end : ℕ) (whole : Option Seen) → end < length text → is_sign (get_or text end 0) ≡ true →
    gathered_after m (terms_from minus (begun_at text start end) (drop end text)) ≡ whole →
    option_and_then (λ n. gathered_after n (terms_from (get_or text end 0 == 45) [] (drop (end + 1) text))) (with_term m minus (begun_at text start end)) ≡ whole
cut m minus text start end whole h e rest =
    sym (ap (gathered_after m) (terms_from-sign minus (begun_at text start end) text end h e) ∙ gathered_after-cons m minus (begun_at text start end) (terms_from (get_or text end 0 == 45) [] (drop (end + 1) text))) ∙ rest

-- a term that is refused
pub cut-none : (m : Seen) (minus : Bool) (text : List ℕ) (start end : ℕ) (whole : Option Seen) → end < length text → is_sign (get_or text end 0) ≡ true →
    gathered_after m (terms_from minus (begun_at text start end) (drop end text)) ≡ whole → None ≡ with_term m minus (begun_at text start end) → None ≡ whole
cut-none m minus text start end whole h e rest none =
    ap (option_and_then (λ n. gathered_after n (terms_from (get_or text end 0 == 45) [] (drop (end + 1) text)))) none ∙ cut m minus text start end whole h e rest

-- a term that joins
pub cut-some : (m n : Seen) (minus : Bool) (text : List ℕ) (start end : ℕ) (whole : Option Seen) → end < length text → is_sign (get_or text end 0) ≡ true →
    gathered_after m (terms_from minus (begun_at text start end) (drop end text)) ≡ whole → Some n ≡ with_term m minus (begun_at text start end) →
    gathered_after n (terms_from (get_or text end 0 == 45) (take (end + 1 - (end + 1)) (drop (end + 1) text)) (drop (end + 1) text)) ≡ whole
cut-some m n minus text start end whole h e rest some =
    let none : end + 1 - (end + 1) ≡ 0 = omega arith in
    ap (λ (k : ℕ). gathered_after n (terms_from (get_or text end 0 == 45) (take k (drop (end + 1) text)) (drop (end + 1) text))) none
    ∙ ap (option_and_then (λ n. gathered_after n (terms_from (get_or text end 0 == 45) [] (drop (end + 1) text)))) some ∙ cut m minus text start end whole h e rest

pub cut-last : (m : Seen) (minus : Bool) (text : List ℕ) (start end : ℕ) (whole : Option Seen) → end ≡ length text → length m.1 ≤ 2 →
    gathered_after m (terms_from minus (begun_at text start end) (drop end text)) ≡ whole → with_term m minus (take (length text - start) (drop start text)) ≡ whole
cut-last m minus text start end whole at few rest =
    ap (λ (k : ℕ). with_term m minus (take (k - start) (drop start text))) (sym at)
    ∙ sym (ap (gathered_after m) (at_drop_all (terms_from minus (begun_at text start end)) text end (omega arith)) ∙ gathered_after-last m minus (begun_at text start end) few)
    ∙ rest
