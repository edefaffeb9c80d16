-- Operands that aren't seen, since they begin in column 30 or later, and lines in doubt, in lines that are printed.
use Rattle.std.proofs.Common.{◌≡◌, ◌≤◌, ◌<◌, ◌+◌, ◌-◌, ◌&&◌, ◌||◌, ◌++◌, ◌∙◌, ℕ, suc, Bool, true, false, true≢false, if◌then◌else◌, List, [], ◌∷◌, length, max, min, replicate, nat_le, nat_lt, refl}
use Rattle.std.proofs.Common.{sym, ap, subst, arith, lt-ltb, leb-false, ltb-false, ltb-true, append_assoc, length-append}
use Rattle.std.proofs.lemmas.Bool.{and_right, or_from, or_parts, lt-leb}
use Rattle.std.proofs.lemmas.List.{length-replicate}
use Rattle.s66_isa.specs.{every, Instr}
use Rattle.s66_line.specs.{after_word, body, from_operand, from_operation, is_blank, is_trailing, label_bytes, skip_blanks, trim, Spells, is_filled, Instruction, class_of, is_code}
use Rattle.s66_source.specs.{before_operation, indent, line_start, Own, Usual, distance, is_far, is_doubtful, label_field, Redefined, is_redefined}
use Rattle.s66_source.specs.declared.columns.Columns.{Columns}
use Rattle.s66_source.proofs.RedefinedCase.{redefined-trim}
use Rattle.s66_source.proofs.ReadBack.{trim-all}
use Rattle.s66_source.proofs.ReadLine.{operand-trimmed, IsLabel, IsRead, read-indented, read-line, body-again, trim-behind}
use Rattle.s66_source.proofs.CharactersRead.{SpellsAll}
use Rattle.s66_source.proofs.Classes.{same-code}

-- the operand is filled, and so far behind the operation
abbrev pub is_distant : List ℕ → Bool
is_distant bytes = is_filled (skip_blanks (after_word bytes)) && nat_le 19 (distance bytes)

-- of bytes from an operation on: a line that has them is in doubt, wherever they stand in it
abbrev pub is_unclear : Redefined → List ℕ → Bool
is_unclear known bytes = is_redefined known bytes || is_distant bytes

-- HOW FAR BEHIND

skip-front : (bytes : List ℕ) → (front : List ℕ) × (bytes ≡ front ++ skip_blanks bytes)
skip-front [] = ([], refl)
skip-front (b ∷ bytes) =
    let later = skip-front bytes in
    elim (is_blank b) as (λ t. (front : List ℕ) × (b ∷ bytes ≡ front ++ (if t then skip_blanks bytes else b ∷ bytes)))
    [ true ↦ (b ∷ later.0, ap (λ bs. b ∷ bs) later.1) | false ↦ ([], refl) ]

word-front : (bytes : List ℕ) → (front : List ℕ) × (bytes ≡ front ++ after_word bytes)
word-front [] = ([], refl)
word-front (b ∷ bytes) =
    let later = word-front bytes in
    elim (is_blank b) as (λ t. (front : List ℕ) × (b ∷ bytes ≡ front ++ (if t then b ∷ bytes else after_word bytes)))
    [ true ↦ ([], refl) | false ↦ (b ∷ later.0, ap (λ bs. b ∷ bs) later.1) ]

-- what stands before the operand
operand-front : (bytes : List ℕ) → (front : List ℕ) × (bytes ≡ front ++ skip_blanks (after_word bytes))
operand-front bytes =
    let word = word-front bytes in
    let blanks = skip-front (after_word bytes) in
    (word.0 ++ blanks.0, word.1 ∙ ap (λ bs. word.0 ++ bs) blanks.1 ∙ sym (append_assoc word.0 blanks.0 (skip_blanks (after_word bytes))))

lengths : (front rest whole : List ℕ) → whole ≡ front ++ rest → length whole - length rest ≡ length front
lengths front rest whole same = let all = ap length same ∙ length-append front rest in omega (arith, all)

distance-trimmed : (bytes : List ℕ) (n : Instr) → Spells bytes n → every is_trailing (skip_blanks (after_word bytes)) ≡ false → distance (trim is_trailing bytes) ≡ distance bytes
distance-trimmed bytes n spells some =
    let rest : List ℕ = skip_blanks (after_word bytes) in
    let front = operand-front bytes in
    let whole : trim is_trailing bytes ≡ front.0 ++ skip_blanks (after_word (trim is_trailing bytes)) =
    ap (trim is_trailing) front.1 ∙ trim-behind is_trailing front.0 rest some ∙ ap (λ bs. front.0 ++ bs) (sym (operand-trimmed bytes n spells)) in
    lengths front.0 (skip_blanks (after_word (trim is_trailing bytes))) (trim is_trailing bytes) whole ∙ sym (lengths front.0 rest bytes front.1)

-- A LINE THAT IS PRINTED

abbrev printed_line : List ℕ → List ℕ → List ℕ
printed_line label bytes = label_field label ++ trim is_trailing bytes

field-length : (label : List ℕ) → length label < 10 → length (label_field label) ≡ 10
field-length label short =
    ap (λ t. length (label ++ (if t then replicate {A = ℕ} (10 - length label) 32 else 32 ∷ []))) (lt-ltb (length label) 10 short)
    ∙ (let all = length-append label (replicate {A = ℕ} (10 - length label) 32) in let blanks = length-replicate {A = ℕ} (10 - length label) 32 in omega (arith, all, blanks, short))

filled-long : (name : List ℕ) → 10 ≤ length name → is_filled name ≡ true
filled-long [] h = absurd (omega (arith, h))
filled-long (b ∷ name) h = refl

-- not so far behind its operation, it doesn't begin in column 30 or later, unless a long label is in front
near-front : (front bytes : List ℕ) (n : Instr) → SpellsAll bytes n → from_operation (body (front ++ trim is_trailing bytes)) ≡ trim is_trailing bytes → is_distant bytes ≡ false →
    (is_filled (skip_blanks (after_word bytes)) ≡ true → nat_lt (length (label_bytes (body (front ++ trim is_trailing bytes)))) 10 ≡ true → length front + distance bytes < 29) → is_far (body (front ++ trim is_trailing bytes)) ≡ false
near-front front bytes n spells left near close = by_operand (every is_trailing rest) refl
  where
    rest : List ℕ
    rest = skip_blanks (after_word bytes)

    line : List ℕ
    line = front ++ trim is_trailing bytes

    operand : from_operand (body line) ≡ trim is_trailing rest
    operand = ap (λ bs. skip_blanks (after_word bs)) left ∙ operand-trimmed bytes n spells.0

    none-far : is_filled (from_operand (body line)) ≡ false → is_far (body line) ≡ false
    none-far empty = ap (λ t. t && (nat_le 19 (distance (from_operation (body line))) || (nat_lt (length (label_bytes (body line))) 10 && nat_le 29 (length (body line) - length (from_operand (body line)))))) empty

    filled-rest : (bs : List ℕ) → every is_trailing bs ≡ false → is_filled bs ≡ true
    filled-rest [] h = absurd (true≢false h)
    filled-rest (b ∷ bs) h = refl

    column : every is_trailing rest ≡ false → (nat_lt (length (label_bytes (body line))) 10 && nat_le 29 (length (body line) - length (from_operand (body line)))) ≡ false
    column some = by_label (nat_lt (length (label_bytes (body line))) 10) refl
      where
        by_label : (short : Bool) → nat_lt (length (label_bytes (body line))) 10 ≡ short → (short && nat_le 29 (length (body line) - length (from_operand (body line)))) ≡ false
        by_label true stated =
            let early = close (filled-rest rest some) stated in
            let whole = ap length (body-again front bytes n spells.0) ∙ length-append front (trim is_trailing bytes) in
            let behind = distance-trimmed bytes n spells.0 some in
            let same : distance (trim is_trailing bytes) ≡ length (trim is_trailing bytes) - length (from_operand (body line)) = ap (λ bs. length (trim is_trailing bytes) - length (skip_blanks (after_word bs))) (sym left) in
            lt-leb 29 (length (body line) - length (from_operand (body line))) (omega (arith, whole, behind, same, early))
        by_label false stated = refl

    by_operand : (t : Bool) → every is_trailing rest ≡ t → is_far (body line) ≡ false
    by_operand true stated = none-far (ap is_filled (operand ∙ trim-all is_trailing rest stated))
    by_operand false stated =
        let close : nat_le 19 (distance bytes) ≡ false = ap (λ t. t && nat_le 19 (distance bytes)) (sym (filled-rest rest stated)) ∙ near in
        let behind : nat_le 19 (distance (from_operation (body line))) ≡ false =
        ap (nat_le 19) (ap distance left ∙ distance-trimmed bytes n spells.0 stated) ∙ close in
        and_right (is_filled (from_operand (body line))) _ (or_from _ _ behind (column stated))

-- so far behind, if there is an operand
pub near-by : (bytes : List ℕ) → is_distant bytes ≡ false → is_filled (skip_blanks (after_word bytes)) ≡ true → distance bytes < 19
near-by bytes near filled = leb-false 19 (distance bytes) (ap (λ t. t && nat_le 19 (distance bytes)) (sym filled) ∙ near)

-- after a label, filled up to column 10
near-printed : (label bytes : List ℕ) (n : Instr) → SpellsAll bytes n → IsRead (printed_line label bytes) label bytes n → is_distant bytes ≡ false → is_far (body (printed_line label bytes)) ≡ false
near-printed label bytes n spells read near = near-front (label_field label) bytes n spells read.left near (λ filled short. by_label (nat_lt (length label) 10) refl short (near-by bytes near filled))
  where
    by_label : (t : Bool) → nat_lt (length label) 10 ≡ t → nat_lt (length (label_bytes (body (printed_line label bytes)))) 10 ≡ true → distance bytes < 19 → length (label_field label) + distance bytes < 29
    by_label true stated short close = let field = field-length label (ltb-true (length label) 10 stated) in omega (arith, field, close)
    by_label false stated short close =
        let named = read.labelled (filled-long label (ltb-false (length label) 10 stated)) in
        absurd (true≢false (sym short ∙ ap (λ bs. nat_lt (length bs) 10) named ∙ stated))

-- AFTER BLANKS

-- behind so many blanks before its operation, the operand would begin in column 30 or later
abbrev pub is_late : ℕ → List ℕ → Bool
is_late blanks bytes = is_filled (skip_blanks (after_word bytes)) && nat_le 29 (blanks + distance bytes)

near-indented : (blanks : ℕ) (bytes : List ℕ) (n : Instr) → SpellsAll bytes n → IsRead (replicate blanks 32 ++ trim is_trailing bytes) [] bytes n → is_distant bytes ≡ false → is_late blanks bytes ≡ false →
    is_far (body (replicate blanks 32 ++ trim is_trailing bytes)) ≡ false
near-indented blanks bytes n spells read near early =
    near-front (replicate blanks 32) bytes n spells read.left near
    (λ filled short. let close = leb-false 29 (blanks + distance bytes) (ap (λ t. t && nat_le 29 (blanks + distance bytes)) (sym filled) ∙ early) in omega (arith, close, length-replicate {A = ℕ} blanks 32))

-- few enough blanks before an operation
abbrev pub Fits : (cut : Bool) → ℕ → List ℕ → Type 0
Fits cut blanks bytes = (2 ≤ blanks) × (blanks ≤ 28) × ((cut && is_late blanks bytes) ≡ false)

near-start : (label : List ℕ) (blanks : ℕ) (bytes : List ℕ) (n : Instr) → SpellsAll bytes n → IsRead (line_start label blanks ++ trim is_trailing bytes) label bytes n → is_distant bytes ≡ false → is_late blanks bytes ≡ false →
    is_far (body (line_start label blanks ++ trim is_trailing bytes)) ≡ false
near-start [] blanks bytes n spells read near early = near-indented blanks bytes n spells read near early
near-start (b ∷ label) blanks bytes n spells read near early = near-printed (b ∷ label) bytes n spells read near

pub read-start : (cut : Bool) (label : List ℕ) (blanks : ℕ) (bytes : List ℕ) (n : Instr) → IsLabel label → Fits cut blanks bytes → SpellsAll bytes n → IsRead (line_start label blanks ++ trim is_trailing bytes) label bytes n
read-start cut [] blanks bytes n is fits spells =
    let all : blanks ≡ suc (suc (blanks - 2)) = omega (arith, fits.0) in
    subst (λ m. IsRead (replicate m 32 ++ trim is_trailing bytes) [] bytes n) (sym all) (read-indented (blanks - 2) bytes n (omega (arith, fits.1)) spells)
read-start cut (b ∷ label) blanks bytes n is fits spells = read-line (b ∷ label) bytes n is spells

-- a line of these bytes isn't in doubt if they aren't
pub clear-printed : (cut : Bool) (known : Redefined) (label : List ℕ) (blanks : ℕ) (bytes : List ℕ) (n : Instr) → IsLabel label → Fits cut blanks bytes → SpellsAll bytes n → (cut && is_unclear known bytes) ≡ false →
    (cut && is_doubtful known (class_of true (line_start label blanks ++ trim is_trailing bytes)) (body (line_start label blanks ++ trim is_trailing bytes))) ≡ false
clear-printed false known label blanks bytes n is fits spells clear = refl
clear-printed true known label blanks bytes n is fits spells clear =
    let line : List ℕ = line_start label blanks ++ trim is_trailing bytes in
    let both = or_parts (is_redefined known bytes) (is_distant bytes) clear in
    let read = read-start true label blanks bytes n is fits spells in
    ap (λ c. is_doubtful known c (body line)) (read.classed true)
    ∙ or_from (is_redefined known (from_operation (body line))) (is_far (body line))
    (ap (is_redefined known) read.left ∙ redefined-trim known bytes n spells.0 ∙ both.0) (near-start label blanks bytes n spells read both.1 fits.2)

-- A LINE THAT IS READ and isn't in doubt

near-read : (line : List ℕ) → is_far line ≡ false → is_distant (from_operation line) ≡ false
near-read line near = by_operand (is_filled (from_operand line)) (nat_le 19 (distance (from_operation line))) (nat_lt (length (label_bytes line)) 10 && nat_le 29 (length line - length (from_operand line))) near
  where
    by_operand : (filled behind column : Bool) → (filled && (behind || column)) ≡ false → (filled && behind) ≡ false
    by_operand true behind column h = (or_parts behind column h).0
    by_operand false behind column h = refl

-- nor is its operand far
not-far : (held after : Bool) (known : Redefined) (line : List ℕ) (located : Bool) (n : Instr) → (held || (true && is_doubtful known (class_of true line) (body line))) ≡ false → class_of after line ≡ Instruction located n →
    is_far (body line) ≡ false
not-far held after known line located n taken stated =
    let class : class_of true line ≡ Instruction located n = same-code after true line (ap is_code stated) ∙ stated in
    (or_parts (is_redefined known (from_operation (body line))) (is_far (body line))
    (ap (λ c. is_doubtful known c (body line)) (sym class) ∙ (or_parts held (is_doubtful known (class_of true line) (body line)) taken).1)).1

pub clear-read : (cut held after : Bool) (known : Redefined) (line : List ℕ) (located : Bool) (n : Instr) → (held || (cut && is_doubtful known (class_of true line) (body line))) ≡ false → class_of after line ≡ Instruction located n →
    (cut && is_unclear known (from_operation (body line))) ≡ false
clear-read false held after known line located n taken stated = refl
clear-read true held after known line located n taken stated =
    let class : class_of true line ≡ Instruction located n = same-code after true line (ap is_code stated) ∙ stated in
    let both = or_parts (is_redefined known (from_operation (body line))) (is_far (body line))
    (ap (λ c. is_doubtful known c (body line)) (sym class) ∙ (or_parts held (is_doubtful known (class_of true line) (body line)) taken).1) in
    or_from (is_redefined known (from_operation (body line))) (is_distant (from_operation (body line))) both.0 (near-read (body line) both.1)

-- INDENTS of lines that were read

-- before an operation in its own column, its operand is as early as it was
own-early : (line : List ℕ) → is_far (body line) ≡ false → is_late (indent Own line) (from_operation (body line)) ≡ false
own-early line near = by_operand (is_filled (from_operand there)) refl
  where
    there : List ℕ
    there = body line

    bytes : List ℕ
    bytes = from_operation there

    by_operand : (filled : Bool) → is_filled (from_operand there) ≡ filled → (filled && nat_le 29 (indent Own line + distance bytes)) ≡ false
    by_operand false stated = refl
    by_operand true stated =
        let both = or_parts (nat_le 19 (distance bytes)) (nat_lt (length (label_bytes there)) 10 && nat_le 29 (length there - length (from_operand there)))
        (ap (λ t. t && (nat_le 19 (distance bytes) || (nat_lt (length (label_bytes there)) 10 && nat_le 29 (length there - length (from_operand there))))) (sym stated) ∙ near) in
        lt-leb 29 (indent Own line + distance bytes) (by_label (nat_lt (length (label_bytes there)) 10) both.1 (leb-false 19 (distance bytes) both.0))
      where
        by_label : (short : Bool) → (short && nat_le 29 (length there - length (from_operand there))) ≡ false → distance bytes < 19 → (if short then max (min (before_operation line) 28) 2 else 10) + distance bytes < 29
        by_label true column close = let early = leb-false 29 (length there - length (from_operand there)) column in omega (arith, early, close)
        by_label false column close = omega (arith, close)

early-by : (columns : Columns) (line : List ℕ) → is_far (body line) ≡ false → is_late (indent columns line) (from_operation (body line)) ≡ false
early-by Own line near = own-early line near
early-by Usual line near = by_operand (is_filled (from_operand (body line))) refl
  where
    by_operand : (filled : Bool) → is_filled (from_operand (body line)) ≡ filled → (filled && nat_le 29 (10 + distance (from_operation (body line)))) ≡ false
    by_operand false stated = refl
    by_operand true stated = lt-leb 29 (10 + distance (from_operation (body line))) (let close = near-by (from_operation (body line)) (near-read (body line) near) stated in omega (arith, close))

pub indent-bounds : (columns : Columns) (line : List ℕ) → (2 ≤ indent columns line) × (indent columns line ≤ 28)
indent-bounds Usual line = (omega arith, omega arith)
indent-bounds Own line =
    elim (nat_lt (length (label_bytes (body line))) 10) as (λ t. (2 ≤ (if t then max (min (before_operation line) 28) 2 else 10)) × ((if t then max (min (before_operation line) 28) 2 else 10) ≤ 28))
    [ true ↦ (omega arith, omega arith) | false ↦ (omega arith, omega arith) ]

pub fits-read : (cut held after : Bool) (columns : Columns) (known : Redefined) (line : List ℕ) (located : Bool) (n : Instr) → (held || (cut && is_doubtful known (class_of true line) (body line))) ≡ false → class_of after line ≡ Instruction located n →
    Fits cut (indent columns line) (from_operation (body line))
fits-read false held after columns known line located n taken stated = let bounds = indent-bounds columns line in (bounds.0, bounds.1, refl)
fits-read true held after columns known line located n taken stated =
    let bounds = indent-bounds columns line in
    (bounds.0, bounds.1, early-by columns line (not-far held after known line located n taken stated))
