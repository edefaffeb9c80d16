-- An instruction line that is printed, read again.
use Rattle.std.proofs.Common.{◌≡◌, ◌<◌, ◌≤◌, ◌+◌, ◌-◌, ◌==◌, ◌&&◌, ◌||◌, ℕ, zero, suc, Bool, true, false, not, if◌then◌else◌, true≢false, List, [], ◌∷◌, ◌++◌, Option, None, Some, is_some}
use Rattle.std.proofs.Common.{option_and_then, length, replicate, refl, sym, ap, ap₂, ◌∙◌, subst, arith, eqb-true, nat_le, nat_lt, append_assoc, length-append, ne_eqb, lt-ltb, ltb-true}
use Rattle.std.proofs.lemmas.Bool.{and_parts, and_from, or_parts, not-true, lt-leb, or_right}
use Rattle.std.proofs.lemmas.List.{length-replicate}
use Rattle.std.proofs.Math.Bool.{and-false}
use Rattle.s66_isa.specs.{Instr, every}
use Rattle.s66_line.specs.{is_blank, is_newline, is_return, trim, body, upper, skip_blanks, word, after_word, blanks, is_comment, from_location, from_operation, continues, label_bytes, is_trailing}
use Rattle.s66_line.specs.{is_filled, operation_of, decode, instr_of, operation_in, operand_in, Spells, class_of, is_pad, is_located, by_operation, begins_run, Instruction, characters_in, rest_in}
use Rattle.s66_line.specs.{runs_on}
use Rattle.s66_line.proofs.InstructionTexts.{is_no_blank, no_blank-word, filled-parts, word-before, after-before}
use Rattle.s66_line.proofs.LineFields.{skip_blanks-no, from_location-no, label-no, indented_no}
use Rattle.s66_line.proofs.NoLineEnds.{ends_no_line, EndsNoLine, spelled-ends_no_line, ends_no_line-upper}
use Rattle.s66_line.proofs.Wholes.{is_inside, every-append}
use Rattle.s66_source.specs.{line_start, label_field}
use Rattle.s66_source.proofs.CharactersRead.{SpellsAll, characters_in-trimmed, whole-trimmed}
use Rattle.s66_source.proofs.ReadBack.{trim-kept, class_of_body, trim-all, every-trim, trim-within}
use Rattle.s66_source.proofs.Classes.{class-tells}

-- WITHOUT THE TRAILING BYTES

trim-front : (b : ℕ) (bytes : List ℕ) → is_blank b ≡ false → ends_no_line b ≡ true → trim is_trailing (b ∷ bytes) ≡ b ∷ trim is_trailing bytes
trim-front b bytes stated h = trim-kept is_trailing b bytes (first (is_blank b) (is_return b) stated (or_parts (is_newline b) (is_return b) (not-true (is_newline b || is_return b) h)).1)
  where
    first : (blank return : Bool) → blank ≡ false → return ≡ false → ((blank || return) && every is_trailing bytes) ≡ false
    first blank return h k = rw (h, k) refl

word-trimmed : (bytes : List ℕ) → EndsNoLine (word bytes) → word (trim is_trailing bytes) ≡ word bytes
word-trimmed [] h = refl
word-trimmed (b ∷ bytes) h = by_blank (is_blank b) refl (word-trimmed bytes) h
  where
    by_blank : (t : Bool) → is_blank b ≡ t → (EndsNoLine (word bytes) → word (trim is_trailing bytes) ≡ word bytes) → EndsNoLine (if t then [] else b ∷ word bytes) →
        word (trim is_trailing (b ∷ bytes)) ≡ (if t then [] else b ∷ word bytes)
    by_blank true stated ih h = elim (every is_trailing (b ∷ bytes)) as (λ e. word (if e then [] else b ∷ trim is_trailing bytes) ≡ []) [ true ↦ refl | false ↦ rw stated refl ]
    by_blank false stated ih h =
        let both = and_parts (ends_no_line b) (every ends_no_line (word bytes)) h in
        ap word (trim-front b bytes stated both.0) ∙ (rw stated (ap (λ w. b ∷ w) (ih both.1)))

after_word-trimmed : (bytes : List ℕ) → EndsNoLine (word bytes) → after_word (trim is_trailing bytes) ≡ trim is_trailing (after_word bytes)
after_word-trimmed [] h = refl
after_word-trimmed (b ∷ bytes) h = by_blank (is_blank b) refl (after_word-trimmed bytes) h
  where
    by_blank : (t : Bool) → is_blank b ≡ t → (EndsNoLine (word bytes) → after_word (trim is_trailing bytes) ≡ trim is_trailing (after_word bytes)) → EndsNoLine (if t then [] else b ∷ word bytes) →
        after_word (trim is_trailing (b ∷ bytes)) ≡ trim is_trailing (if t then b ∷ bytes else after_word bytes)
    by_blank true stated ih h =
        elim (every is_trailing (b ∷ bytes)) as (λ e. after_word (if e then [] else b ∷ trim is_trailing bytes) ≡ (if e then [] else b ∷ trim is_trailing bytes)) [ true ↦ refl | false ↦ rw stated refl ]
    by_blank false stated ih h =
        let both = and_parts (ends_no_line b) (every ends_no_line (word bytes)) h in
        ap after_word (trim-front b bytes stated both.0) ∙ (rw stated (ih both.1))

skip_blanks-trimmed : (bytes : List ℕ) → skip_blanks (trim is_trailing bytes) ≡ trim is_trailing (skip_blanks bytes)
skip_blanks-trimmed [] = refl
skip_blanks-trimmed (b ∷ bytes) = by_blank (is_blank b) (every is_trailing (b ∷ bytes)) refl refl (skip_blanks-trimmed bytes)
  where
    by_blank : (t e : Bool) → is_blank b ≡ t → every is_trailing (b ∷ bytes) ≡ e → skip_blanks (trim is_trailing bytes) ≡ trim is_trailing (skip_blanks bytes) →
        skip_blanks (if e then [] else b ∷ trim is_trailing bytes) ≡ trim is_trailing (if t then skip_blanks bytes else b ∷ bytes)
    by_blank true true stated all ih = ap skip_blanks (sym (trim-all is_trailing bytes (and_parts (is_trailing b) (every is_trailing bytes) all).1)) ∙ ih
    by_blank true false stated all ih = rw stated ih
    by_blank false true stated all ih = sym (trim-all is_trailing (b ∷ bytes) all)
    by_blank false false stated all ih = skip_blanks-no b (trim is_trailing bytes) stated ∙ sym (trim-kept is_trailing b bytes all)

-- WHAT REMAINS of the bytes that spell an instruction

ends_no_line-word : (bytes : List ℕ) → EndsNoLine (upper bytes) → EndsNoLine bytes
ends_no_line-word bytes h = sym (ends_no_line-upper bytes) ∙ h

pub operation-again : (bytes : List ℕ) (n : Instr) → Spells bytes n → word (trim is_trailing bytes) ≡ word bytes
operation-again bytes n spells = word-trimmed bytes (ends_no_line-word (word bytes) (spelled-ends_no_line (operation_in bytes) (operand_in bytes) n spells).0.0)

pub operand-trimmed : (bytes : List ℕ) (n : Instr) → Spells bytes n → skip_blanks (after_word (trim is_trailing bytes)) ≡ trim is_trailing (skip_blanks (after_word bytes))
operand-trimmed bytes n spells =
    ap skip_blanks (after_word-trimmed bytes (ends_no_line-word (word bytes) (spelled-ends_no_line (operation_in bytes) (operand_in bytes) n spells).0.0))
    ∙ skip_blanks-trimmed (after_word bytes)

pub operand-again : (bytes : List ℕ) (n : Instr) → Spells bytes n → word (skip_blanks (after_word (trim is_trailing bytes))) ≡ word (skip_blanks (after_word bytes))
operand-again bytes n spells =
    ap word (operand-trimmed bytes n spells)
    ∙ word-trimmed (skip_blanks (after_word bytes)) (ends_no_line-word (word (skip_blanks (after_word bytes))) (spelled-ends_no_line (operation_in bytes) (operand_in bytes) n spells).1)

-- it spells the same instruction
spells-again : (bytes : List ℕ) (n : Instr) → Spells bytes n → Spells (trim is_trailing bytes) n
spells-again bytes n spells =
    ap (λ w. instr_of (upper w) (operand_in (trim is_trailing bytes))) (operation-again bytes n spells)
    ∙ ap (λ w. instr_of (operation_in bytes) (upper w)) (operand-again bytes n spells)
    ∙ spells

rest-again : (bytes : List ℕ) (n : Instr) → Spells bytes n → rest_in (trim is_trailing bytes) ≡ trim is_trailing (rest_in bytes)
rest-again bytes n spells =
    ap after_word (operand-trimmed bytes n spells)
    ∙ after_word-trimmed (skip_blanks (after_word bytes)) (ends_no_line-word (word (skip_blanks (after_word bytes))) (spelled-ends_no_line (operation_in bytes) (operand_in bytes) n spells).1)

-- with all characters of its operand
all-again : (bytes : List ℕ) (n : Instr) → SpellsAll bytes n → SpellsAll (trim is_trailing bytes) n
all-again bytes n is =
    (spells-again bytes n is.0, whole-trimmed bytes (trim is_trailing bytes) (ap upper (operand-again bytes n is.0)) (rest-again bytes n is.0) is.1)

pub characters-again : (bytes : List ℕ) (n : Instr) → Spells bytes n → characters_in (trim is_trailing bytes) ≡ characters_in bytes
characters-again bytes n spells = characters_in-trimmed bytes (trim is_trailing bytes) (ap upper (operand-again bytes n spells)) (rest-again bytes n spells)

pub filled-upper : (bytes : List ℕ) → is_filled (upper bytes) ≡ is_filled bytes
filled-upper [] = refl
filled-upper (b ∷ bytes) = refl

filled-again : (bytes : List ℕ) (n : Instr) → Spells bytes n → is_filled (word (trim is_trailing bytes)) ≡ true
filled-again bytes n spells =
    ap is_filled (operation-again bytes n spells) ∙ sym (filled-upper (word bytes)) ∙ (spelled-ends_no_line (operation_in bytes) (operand_in bytes) n spells).0.1

-- a word is in front
skip_blanks-word : (bytes : List ℕ) → is_filled (word bytes) ≡ true → skip_blanks bytes ≡ bytes
skip_blanks-word [] h = refl
skip_blanks-word (b ∷ bytes) h = by_blank (is_blank b) h
  where
    by_blank : (t : Bool) → is_filled (if t then [] else b ∷ word bytes) ≡ true → (if t then skip_blanks bytes else b ∷ bytes) ≡ b ∷ bytes
    by_blank true h = absurd (true≢false (sym h))
    by_blank false h = refl

some-length : (bytes : List ℕ) → is_filled (word bytes) ≡ true → 0 < length bytes
some-length [] h = absurd (true≢false (sym h))
some-length (b ∷ bytes) h = omega arith

not-all : (bytes : List ℕ) → is_filled (word (trim is_trailing bytes)) ≡ true → every is_trailing bytes ≡ false
not-all bytes h = by_test (every is_trailing bytes) refl
  where
    by_test : (t : Bool) → every is_trailing bytes ≡ t → t ≡ false
    by_test true stated = absurd (true≢false (sym h ∙ ap (λ w. is_filled (word w)) (trim-all is_trailing bytes stated)))
    by_test false stated = refl

-- NO CARRIAGE RETURN AT THE END

pub every-behind : (test : ℕ → Bool) (front bytes : List ℕ) → every test bytes ≡ false → every test (front ++ bytes) ≡ false
every-behind test [] bytes h = h
every-behind test (b ∷ front) bytes h = rw (every-behind test front bytes h) (and-false (test b))

pub trim-behind : (test : ℕ → Bool) (front bytes : List ℕ) → every test bytes ≡ false → trim test (front ++ bytes) ≡ front ++ trim test bytes
trim-behind test [] bytes h = refl
trim-behind test (b ∷ front) bytes h = trim-kept test b (front ++ bytes) (every-behind test (b ∷ front) bytes h) ∙ ap (λ bs. b ∷ bs) (trim-behind test front bytes h)

return-trailing : (b : ℕ) → is_return b ≡ true → is_trailing b ≡ true
return-trailing b is = or_right (is_blank b) (is_return b) is

pub body-again : (front bytes : List ℕ) (n : Instr) → Spells bytes n → body (front ++ trim is_trailing bytes) ≡ front ++ trim is_trailing bytes
body-again front bytes n spells =
    trim-behind is_return front (trim is_trailing bytes) (every-trim is_return is_trailing return-trailing bytes (not-all bytes (filled-again bytes n spells)))
    ∙ ap (λ bs. front ++ bs) (trim-within is_return is_trailing return-trailing bytes)

-- A CLASS from its parts

operation-some : {X : Type 0} (o : Option X) (f : X → Option Instr) (n : Instr) → option_and_then f o ≡ Some n → is_some o ≡ true
operation-some None f n h = cc
operation-some (Some x) f n h = refl

pad-none : (word : List ℕ) → is_some (operation_of word) ≡ true → is_pad word ≡ false
pad-none [] h = refl
pad-none (a ∷ []) h = refl
pad-none (a ∷ b ∷ []) h = absurd (true≢false (sym h))
pad-none (a ∷ b ∷ c ∷ more) h = refl

spelled-class : (located : Bool) (bytes : List ℕ) (n : Instr) → Spells bytes n → runs_on bytes ≡ false → by_operation located bytes ≡ Instruction located n
spelled-class located bytes n h whole =
    let some = operation-some (operation_of (operation_in bytes)) (λ o. decode o.0 o.1 (operand_in bytes)) n h in
    rw (pad-none (operation_in bytes) some, some, whole, h) refl

class-spelled : (after : Bool) (line bytes : List ℕ) (located : Bool) (n : Instr) → body line ≡ line → is_comment line ≡ false → continues line ≡ false → is_located line ≡ located → from_operation line ≡ bytes → SpellsAll bytes n →
    class_of after line ≡ Instruction located n
class-spelled after line bytes located n whole code first here at spells =
    ap (class_of_body after) whole ∙ (rw (code, first) (ap₂ by_operation here at ∙ spelled-class located bytes n spells.0 spells.1))

-- LABELS

-- as it is in front of a line of code: without blanks, but for one in column 1
abbrev is_label : List ℕ → Bool
is_label [] = true
is_label (b ∷ bytes) = if b == 32 then is_filled bytes && every is_no_blank bytes else (every is_no_blank (b ∷ bytes) && not (b == 42) && not (b == 44))

abbrev pub IsLabel : List ℕ → Type 0
IsLabel label = (is_label label ≡ true) × (every is_inside label ≡ true)

-- how an instruction line is read: with its label if it has one, and its bytes without trailing ones
pub record IsRead (line label bytes : List ℕ) (n : Instr) : Type 0 where
  pub classed : (after : Bool) → class_of after line ≡ Instruction (is_filled label) n
  pub labelled : is_filled label ≡ true → label_bytes (body line) ≡ label
  pub left : from_operation (body line) ≡ trim is_trailing bytes

-- if a line is whole without returns at its end
read-by : (line label bytes : List ℕ) (n : Instr) → SpellsAll bytes n → body line ≡ line → is_comment line ≡ false → continues line ≡ false → is_located line ≡ is_filled label →
    from_operation line ≡ trim is_trailing bytes → (is_filled label ≡ true → label_bytes line ≡ label) → IsRead line label bytes n
read-by line label bytes n spells whole code first here at name = record {
  classed = λ after. class-spelled after line (trim is_trailing bytes) (is_filled label) n whole code first here at (all-again bytes n spells);
  labelled = λ some. ap label_bytes whole ∙ name some;
  left = ap from_operation whole ∙ at;
}

-- few blanks are in front
few-blanks : (b : ℕ) (bytes : List ℕ) (count : ℕ) → (b == 42) ≡ false → blanks (b ∷ bytes) ≡ count → count < length (b ∷ bytes) → count < 29 → is_comment (b ∷ bytes) ≡ false
few-blanks b bytes count star same fewer few =
    ap (λ t. t || (blanks (b ∷ bytes) == length (b ∷ bytes) || nat_le 29 (blanks (b ∷ bytes)))) star
    ∙ ap (λ m. m == length (b ∷ bytes) || nat_le 29 m) same
    ∙ rw (ne_eqb count (length (b ∷ bytes)) (λ all. absurd (omega (arith, all, fewer))), lt-leb 29 count few) refl

skip-padding : (k : ℕ) (bytes : List ℕ) → skip_blanks (replicate k 32 ++ bytes) ≡ skip_blanks bytes
skip-padding zero bytes = refl
skip-padding (suc k) bytes = skip-padding k bytes

-- without a label
pub read-indented : (k : ℕ) (bytes : List ℕ) (n : Instr) → k ≤ 26 → SpellsAll bytes n → IsRead (replicate (suc (suc k)) 32 ++ trim is_trailing bytes) [] bytes n
read-indented k bytes n few spells =
    let tail : List ℕ = trim is_trailing bytes in
    let front : List ℕ = replicate (suc (suc k)) 32 in
    let filled = filled-again bytes n spells.0 in
    let at : skip_blanks (front ++ tail) ≡ tail = skip-padding (suc (suc k)) tail ∙ skip_blanks-word tail filled in
    let some = some-length tail filled in
    let wide : length front ≡ suc (suc k) = length-replicate (suc (suc k)) 32 in
    let many : length (front ++ tail) ≡ length front + length tail = length-append front tail in
    let count : blanks (front ++ tail) ≡ suc (suc k) = ap (λ bs. length (front ++ tail) - length bs) at ∙ omega (arith, many, wide) in
    read-by (front ++ tail) [] bytes n spells (body-again front bytes n spells.0)
    (few-blanks 32 (replicate (suc k) 32 ++ tail) (suc (suc k)) refl count (omega (arith, many, wide, some)) (omega (arith, few)))
    refl refl at (λ none. absurd (true≢false (sym none)))

-- with one in column 2
in-second : (name bytes : List ℕ) (k : ℕ) (n : Instr) → is_filled name ≡ true → every is_no_blank name ≡ true → SpellsAll bytes n → body (32 ∷ (name ++ 32 ∷ (replicate k 32 ++ trim is_trailing bytes))) ≡ 32 ∷ (name ++ 32 ∷ (replicate k 32 ++ trim is_trailing bytes)) →
    IsRead (32 ∷ (name ++ 32 ∷ (replicate k 32 ++ trim is_trailing bytes))) (32 ∷ name) bytes n
in-second [] bytes k n some words spells whole = absurd (true≢false (sym some))
in-second (c ∷ name) bytes k n some words spells whole =
    let tail : List ℕ = trim is_trailing bytes in
    let rest : List ℕ = replicate k 32 ++ tail in
    let at : skip_blanks tail ≡ tail = skip_blanks-word tail (filled-again bytes n spells.0) in
    let front : blanks (32 ∷ c ∷ (name ++ 32 ∷ rest)) ≡ 1 = ap (λ bs. length (32 ∷ c ∷ (name ++ 32 ∷ rest)) - length bs) (skip_blanks-no c (name ++ 32 ∷ rest) (filled-parts c name words).0) ∙ omega arith in
    read-by (32 ∷ c ∷ (name ++ 32 ∷ rest)) (32 ∷ c ∷ name) bytes n spells whole
    (few-blanks 32 (c ∷ (name ++ 32 ∷ rest)) 1 refl front (omega arith) (omega arith))
    refl
    (ap (λ w. nat_lt 0 (length w)) (word-before (c ∷ name) rest words) ∙ lt-ltb 0 (length (c ∷ name)) (omega arith))
    (ap skip_blanks (after-before (c ∷ name) rest words) ∙ skip-padding k tail ∙ at)
    (λ some. ap (λ w. 32 ∷ w) (word-before (c ∷ name) rest words))

-- with one in column 1
in-first : (b : ℕ) (name bytes : List ℕ) (k : ℕ) (n : Instr) → (b == 32) ≡ false → (b == 42) ≡ false → (b == 44) ≡ false → every is_no_blank (b ∷ name) ≡ true → SpellsAll bytes n →
    body (b ∷ (name ++ 32 ∷ (replicate k 32 ++ trim is_trailing bytes))) ≡ b ∷ (name ++ 32 ∷ (replicate k 32 ++ trim is_trailing bytes)) →
    IsRead (b ∷ (name ++ 32 ∷ (replicate k 32 ++ trim is_trailing bytes))) (b ∷ name) bytes n
in-first b name bytes k n space star comma words spells whole =
    let tail : List ℕ = trim is_trailing bytes in
    let rest : List ℕ = replicate k 32 ++ tail in
    let line : List ℕ = b ∷ (name ++ 32 ∷ rest) in
    let at : skip_blanks tail ≡ tail = skip_blanks-word tail (filled-again bytes n spells.0) in
    let here : from_location line ≡ line = from_location-no b (name ++ 32 ∷ rest) space in
    let first : word line ≡ b ∷ name = word-before (b ∷ name) rest words in
    read-by line (b ∷ name) bytes n spells whole
    (ap (λ t. t || (blanks line == length line || nat_le 29 (blanks line))) star ∙ indented_no b (name ++ 32 ∷ rest) (filled-parts b name words).0)
    comma
    (ap (λ bs. nat_lt 0 (length (word bs))) here ∙ ap (λ w. nat_lt 0 (length w)) first ∙ lt-ltb 0 (length (b ∷ name)) (omega arith))
    (ap (λ bs. skip_blanks (after_word bs)) here ∙ ap skip_blanks (after-before (b ∷ name) rest words) ∙ skip-padding k tail ∙ at)
    (λ some. label-no b (name ++ 32 ∷ rest) space ∙ first)

-- at least one blank follows a label
padding : (count : ℕ) → (k : ℕ) × ((if nat_lt count 10 then replicate {A = ℕ} (10 - count) 32 else 32 ∷ []) ≡ 32 ∷ replicate k 32)
padding count = by_width (nat_lt count 10) refl
  where
    by_width : (t : Bool) → nat_lt count 10 ≡ t → (k : ℕ) × ((if t then replicate {A = ℕ} (10 - count) 32 else 32 ∷ []) ≡ 32 ∷ replicate k 32)
    by_width true stated = (9 - count, let less = ltb-true count 10 stated in let one : 10 - count ≡ suc (9 - count) = omega (arith, less) in ap (λ m. replicate {A = ℕ} m 32) one)
    by_width false stated = (0, refl)

with-label : (b : ℕ) (name bytes : List ℕ) (n : Instr) → is_label (b ∷ name) ≡ true → SpellsAll bytes n → IsRead (label_field (b ∷ name) ++ trim is_trailing bytes) (b ∷ name) bytes n
with-label b name bytes n is spells =
    let pad = padding (length (b ∷ name)) in
    let whole : label_field (b ∷ name) ++ trim is_trailing bytes ≡ b ∷ (name ++ 32 ∷ (replicate pad.0 32 ++ trim is_trailing bytes)) =
    ap (λ ps. ((b ∷ name) ++ ps) ++ trim is_trailing bytes) pad.1 ∙ append_assoc (b ∷ name) (32 ∷ replicate pad.0 32) (trim is_trailing bytes) in
    subst (λ line. IsRead line (b ∷ name) bytes n) (sym whole)
    (by_column pad.0 (b == 32) refl is (sym (ap body whole) ∙ body-again (label_field (b ∷ name)) bytes n spells.0 ∙ whole))
  where
    by_column : (k : ℕ) (t : Bool) → (b == 32) ≡ t → (if t then is_filled name && every is_no_blank name else (every is_no_blank (b ∷ name) && not (b == 42) && not (b == 44))) ≡ true →
        body (b ∷ (name ++ 32 ∷ (replicate k 32 ++ trim is_trailing bytes))) ≡ b ∷ (name ++ 32 ∷ (replicate k 32 ++ trim is_trailing bytes)) →
        IsRead (b ∷ (name ++ 32 ∷ (replicate k 32 ++ trim is_trailing bytes))) (b ∷ name) bytes n
    by_column k true stated is kept =
        let both = and_parts (is_filled name) (every is_no_blank name) is in
        let here : b ≡ 32 = eqb-true b 32 stated in
        subst (λ c. IsRead (c ∷ (name ++ 32 ∷ (replicate k 32 ++ trim is_trailing bytes))) (c ∷ name) bytes n) (sym here)
        (in-second name bytes k n both.0 both.1 spells (subst (λ c. body (c ∷ (name ++ 32 ∷ (replicate k 32 ++ trim is_trailing bytes))) ≡ c ∷ (name ++ 32 ∷ (replicate k 32 ++ trim is_trailing bytes))) here kept))
    by_column k false stated is kept =
        let outer = and_parts (every is_no_blank (b ∷ name) && not (b == 42)) (not (b == 44)) is in
        let inner = and_parts (every is_no_blank (b ∷ name)) (not (b == 42)) outer.0 in
        in-first b name bytes k n stated (not-true (b == 42) inner.1) (not-true (b == 44) outer.1) inner.0 spells kept

pub read-line : (label bytes : List ℕ) (n : Instr) → IsLabel label → SpellsAll bytes n → IsRead (label_field label ++ trim is_trailing bytes) label bytes n
read-line [] bytes n is spells = read-indented 8 bytes n (omega arith) spells
read-line (b ∷ name) bytes n is spells = with-label b name bytes n is.0 spells

-- THE LABEL OF A LINE OF CODE

every-word : (test : ℕ → Bool) (bytes : List ℕ) → every test bytes ≡ true → every test (word bytes) ≡ true
every-word test [] h = refl
every-word test (b ∷ bytes) h =
    let both = and_parts (test b) (every test bytes) h in
    elim (is_blank b) as (λ t. every test (if t then [] else b ∷ word bytes) ≡ true) [ true ↦ refl | false ↦ and_from (test b) (every test (word bytes)) both.0 (every-word test bytes both.1) ]

every-after_word : (test : ℕ → Bool) (bytes : List ℕ) → every test bytes ≡ true → every test (after_word bytes) ≡ true
every-after_word test [] h = refl
every-after_word test (b ∷ bytes) h =
    elim (is_blank b) as (λ t. every test (if t then b ∷ bytes else after_word bytes) ≡ true) [ true ↦ h | false ↦ every-after_word test bytes (and_parts (test b) (every test bytes) h).1 ]

every-skip_blanks : (test : ℕ → Bool) (bytes : List ℕ) → every test bytes ≡ true → every test (skip_blanks bytes) ≡ true
every-skip_blanks test [] h = refl
every-skip_blanks test (b ∷ bytes) h =
    elim (is_blank b) as (λ t. every test (if t then skip_blanks bytes else b ∷ bytes) ≡ true) [ true ↦ every-skip_blanks test bytes (and_parts (test b) (every test bytes) h).1 | false ↦ h ]

pub every-trimmed : (test end : ℕ → Bool) (bytes : List ℕ) → every test bytes ≡ true → every test (trim end bytes) ≡ true
every-trimmed test end [] h = refl
every-trimmed test end (b ∷ bytes) h =
    let both = and_parts (test b) (every test bytes) h in
    elim (every end (b ∷ bytes)) as (λ t. every test (if t then [] else b ∷ trim end bytes) ≡ true) [ true ↦ refl | false ↦ and_from (test b) (every test (trim end bytes)) both.0 (every-trimmed test end bytes both.1) ]

every-from_location : (test : ℕ → Bool) (line : List ℕ) → every test line ≡ true → every test (from_location line) ≡ true
every-from_location test [] h = refl
every-from_location test (b ∷ bytes) h = elim (b == 32) as (λ t. every test (if t then bytes else b ∷ bytes) ≡ true) [ true ↦ (and_parts (test b) (every test bytes) h).1 | false ↦ h ]

pub every-from_operation : (test : ℕ → Bool) (line : List ℕ) → every test line ≡ true → every test (from_operation line) ≡ true
every-from_operation test line h = every-skip_blanks test (after_word (from_location line)) (every-after_word test (from_location line) (every-from_location test line h))

inside-label : (line : List ℕ) → every is_inside line ≡ true → every is_inside (label_bytes line) ≡ true
inside-label [] h = refl
inside-label (b ∷ bytes) h =
    elim (b == 32) as (λ t. every is_inside (if t then 32 ∷ word bytes else word (b ∷ bytes)) ≡ true)
    [ true ↦ every-word is_inside bytes (and_parts (is_inside b) (every is_inside bytes) h).1 | false ↦ every-word is_inside (b ∷ bytes) h ]

filled-from : (bytes : List ℕ) → nat_lt 0 (length bytes) ≡ true → is_filled bytes ≡ true
filled-from [] h = absurd (true≢false (sym h))
filled-from (b ∷ bytes) h = refl

label-of_body : (line : List ℕ) → is_comment line ≡ false → continues line ≡ false → is_located line ≡ true → (is_label (label_bytes line) ≡ true) × (is_filled (label_bytes line) ≡ true)
label-of_body [] code first here = absurd (true≢false code)
label-of_body (b ∷ bytes) code first here = by_column (b == 32) (is_blank b) refl refl here
  where
    by_column : (t blank : Bool) → (b == 32) ≡ t → is_blank b ≡ blank → nat_lt 0 (length (word (if t then bytes else b ∷ bytes))) ≡ true →
        (is_label (if t then 32 ∷ word bytes else (if blank then [] else b ∷ word bytes)) ≡ true) × (is_filled (if t then 32 ∷ word bytes else (if blank then [] else b ∷ word bytes)) ≡ true)
    by_column true blank stated known here = (and_from (is_filled (word bytes)) (every is_no_blank (word bytes)) (filled-from (word bytes) here) (no_blank-word bytes), refl)
    by_column false true stated known here = absurd (true≢false (sym (filled-from (word (b ∷ bytes)) here) ∙ ap (λ t. is_filled (if t then [] else b ∷ word bytes)) known))
    by_column false false stated known here =
        let star : (b == 42) ≡ false = (or_parts (b == 42) (blanks (b ∷ bytes) == length (b ∷ bytes) || nat_le 29 (blanks (b ∷ bytes))) code).0 in
        let words : every is_no_blank (b ∷ word bytes) ≡ true = and_from (is_no_blank b) (every is_no_blank (word bytes)) (ap not known) (no_blank-word bytes) in (
          ap (λ t. if t then is_filled (word bytes) && every is_no_blank (word bytes) else (every is_no_blank (b ∷ word bytes) && not (b == 42) && not (b == 44))) stated
              ∙ and_from (every is_no_blank (b ∷ word bytes) && not (b == 42)) (not (b == 44)) (and_from (every is_no_blank (b ∷ word bytes)) (not (b == 42)) words (ap not star)) (ap not first),
          refl,
        )

-- what is in front of code is a label
pub label-of_code : (after : Bool) (line : List ℕ) → begins_run (class_of after line) ≡ true → every is_inside line ≡ true → IsLabel (label_bytes (body line)) × (is_filled (label_bytes (body line)) ≡ true)
label-of_code after line begins inside =
    let (code, located) = (class-tells after line).begins begins in
    let label = label-of_body (body line) code.comment code.comma located in
    ((label.0, inside-label (body line) (every-trimmed is_inside is_return line inside)), label.1)

-- NO NEWLINE in what is printed

inside-padding : (k : ℕ) → every is_inside (replicate k 32) ≡ true
inside-padding zero = refl
inside-padding (suc k) = inside-padding k

pub inside-line : (label bytes : List ℕ) → every is_inside label ≡ true → every is_inside bytes ≡ true → every is_inside (label_field label ++ trim is_trailing bytes) ≡ true
inside-line label bytes h k =
    let pad = padding (length label) in
    every-append is_inside (label_field label) (trim is_trailing bytes)
    (every-append is_inside label _ h (ap (every is_inside) pad.1 ∙ inside-padding pad.0))
    (every-trimmed is_inside is_trailing bytes k)

pub inside-start : (label : List ℕ) (blanks : ℕ) (bytes : List ℕ) → every is_inside label ≡ true → every is_inside bytes ≡ true → every is_inside (line_start label blanks ++ trim is_trailing bytes) ≡ true
inside-start [] blanks bytes h k = every-append is_inside (replicate blanks 32) (trim is_trailing bytes) (inside-padding blanks) (every-trimmed is_inside is_trailing bytes k)
inside-start (b ∷ label) blanks bytes h k = inside-line (b ∷ label) bytes h k
