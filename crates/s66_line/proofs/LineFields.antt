-- Words and blanks at the front of a line by their lengths, and a line without the end that passes.
use Rattle.std.specs.List.{prefix_len}
use Rattle.std.proofs.Common.{◌≡◌, ℕ, zero, suc, ◌+◌, ◌-◌, ◌≤◌, ◌<◌, Bool, true, false, not, cond, List, [], ◌∷◌, ◌++◌, length, take, drop, refl, sym, ap, ◌∙◌, arith, length-drop, get_or, eqb-true}
use Rattle.std.proofs.Common.{take-suc, ◌&&◌, ◌||◌, ◌==◌, nat_le}
use Rattle.std.proofs.Math.Dec.{eqb-zero-suc}
use Rattle.std.proofs.Math.Bool.{and-true, and-false}
use Rattle.std.proofs.lemmas.List.{take_rest}
use Rattle.std.proofs.lemmas.List.Sums.{prefix_len-le-length}
use Rattle.s66_isa.specs.{every}
use Rattle.s66_line.specs.{is_blank, blanks, skip_blanks, word, after_word, trim, from_location, label_bytes}

pub skip_blanks-drop : (bytes : List ℕ) → skip_blanks bytes ≡ drop (prefix_len is_blank bytes) bytes
skip_blanks-drop [] = refl
skip_blanks-drop (b ∷ bytes) =
    elim (is_blank b) as (λ t. cond t (skip_blanks bytes) (b ∷ bytes) ≡ drop (cond t (1 + prefix_len is_blank bytes) 0) (b ∷ bytes))
    [ true ↦ (let h = skip_blanks-drop bytes in let one : 1 + prefix_len is_blank bytes ≡ suc (prefix_len is_blank bytes) = omega arith in rw one h) | false ↦ refl ]

pub word-take : (bytes : List ℕ) → word bytes ≡ take (prefix_len (λ b. not (is_blank b)) bytes) bytes
word-take [] = refl
word-take (b ∷ bytes) =
    let n = prefix_len (λ b. not (is_blank b)) bytes in
    elim (is_blank b) as (λ t. cond t [] (b ∷ word bytes) ≡ take (cond (not t) (1 + n) 0) (b ∷ bytes))
    [ true ↦ refl | false ↦ (let one : 1 + n ≡ suc n = omega arith in rw one (ap (λ w. b ∷ w) (word-take bytes))) ]

pub after_word-drop : (bytes : List ℕ) → after_word bytes ≡ drop (prefix_len (λ b. not (is_blank b)) bytes) bytes
after_word-drop [] = refl
after_word-drop (b ∷ bytes) =
    let n = prefix_len (λ b. not (is_blank b)) bytes in
    elim (is_blank b) as (λ t. cond t (b ∷ bytes) (after_word bytes) ≡ drop (cond (not t) (1 + n) 0) (b ∷ bytes))
    [ true ↦ refl | false ↦ (let one : 1 + n ≡ suc n = omega arith in rw one (after_word-drop bytes)) ]

pub blanks-length : (bytes : List ℕ) → length bytes - length (skip_blanks bytes) ≡ prefix_len is_blank bytes
blanks-length bytes =
    let h = prefix_len-le-length is_blank bytes in
    let l = length-drop (prefix_len is_blank bytes) bytes in
    rw (skip_blanks-drop bytes) (omega (arith, h, l))

pub skip_blanks-rest : (bytes : List ℕ) → skip_blanks bytes ≡ take (length bytes - prefix_len is_blank bytes) (drop (prefix_len is_blank bytes) bytes)
skip_blanks-rest bytes = skip_blanks-drop bytes ∙ sym (take_rest bytes (prefix_len is_blank bytes))

pub after_word-rest : (bytes : List ℕ) →
    after_word bytes ≡ take (length bytes - prefix_len (λ b. not (is_blank b)) bytes) (drop (prefix_len (λ b. not (is_blank b)) bytes) bytes)
after_word-rest bytes = after_word-drop bytes ∙ sym (take_rest bytes (prefix_len (λ b. not (is_blank b)) bytes))

pub ruleset word_steps = (skip_blanks-rest, word-take, after_word-rest, blanks-length)

-- THE LABEL of a line

pub word-length : (bytes : List ℕ) → length (word bytes) ≤ length bytes
word-length [] = omega arith
word-length (b ∷ bytes) =
    elim (is_blank b) as (λ t. length (cond t [] (b ∷ word bytes)) ≤ suc (length bytes))
    [ true ↦ omega arith | false ↦ (let h = word-length bytes in omega (arith, h)) ]

take-word : (bytes : List ℕ) → take (length (word bytes)) bytes ≡ word bytes
take-word [] = refl
take-word (b ∷ bytes) =
    elim (is_blank b) as (λ t. take (length (cond t [] (b ∷ word bytes))) (b ∷ bytes) ≡ cond t [] (b ∷ word bytes))
    [ true ↦ refl | false ↦ ap (λ w. b ∷ w) (take-word bytes) ]

pub from_location-yes : (b : ℕ) (bytes : List ℕ) → (b == 32) ≡ true → from_location (b ∷ bytes) ≡ bytes
from_location-yes b bytes space = rw space refl

pub from_location-no : (b : ℕ) (bytes : List ℕ) → (b == 32) ≡ false → from_location (b ∷ bytes) ≡ b ∷ bytes
from_location-no b bytes other = rw other refl

pub label-yes : (b : ℕ) (bytes : List ℕ) → (b == 32) ≡ true → label_bytes (b ∷ bytes) ≡ 32 ∷ word bytes
label-yes b bytes space = rw space refl

pub label-no : (b : ℕ) (bytes : List ℕ) → (b == 32) ≡ false → label_bytes (b ∷ bytes) ≡ word (b ∷ bytes)
label-no b bytes other = rw other refl

-- the columns before the location field, and the field
label-cut-by : (t : Bool) (b : ℕ) (bytes : List ℕ) → (b == 32) ≡ t →
    take (length (b ∷ bytes) - length (from_location (b ∷ bytes)) + length (word (from_location (b ∷ bytes)))) (b ∷ bytes) ≡ label_bytes (b ∷ bytes)
label-cut-by true b bytes stated =
    let one : suc (length bytes) - length bytes + length (word bytes) ≡ suc (length (word bytes)) = omega arith in
    let here : b ≡ 32 = eqb-true b 32 stated in
    rw (from_location-yes b bytes stated, label-yes b bytes stated, one, take-word bytes, here) refl
label-cut-by false b bytes stated =
    let none : suc (length bytes) - suc (length bytes) + length (word (b ∷ bytes)) ≡ length (word (b ∷ bytes)) = omega arith in
    rw (from_location-no b bytes stated, label-no b bytes stated, none) (take-word (b ∷ bytes))

pub label-cut : (line : List ℕ) → take (length line - length (from_location line) + length (word (from_location line))) line ≡ label_bytes line
label-cut [] = refl
label-cut (b ∷ bytes) = label-cut-by (b == 32) b bytes refl

-- A COMMENT begins with a star or a blank

pub skip_blanks-no : (b : ℕ) (bytes : List ℕ) → is_blank b ≡ false → skip_blanks (b ∷ bytes) ≡ b ∷ bytes
skip_blanks-no b bytes other = rw other refl

pub indented_no : (b : ℕ) (bytes : List ℕ) → is_blank b ≡ false → (blanks (b ∷ bytes) == length (b ∷ bytes) || nat_le 29 (blanks (b ∷ bytes))) ≡ false
indented_no b bytes other =
    let none : suc (length bytes) - suc (length bytes) ≡ 0 = omega arith in
    rw (skip_blanks-no b bytes other, none, eqb-zero-suc (length bytes)) refl

-- THE SPELLING of a line

pub skip_blanks-length : (bytes : List ℕ) → length (skip_blanks bytes) ≤ length bytes
skip_blanks-length [] = omega arith
skip_blanks-length (b ∷ bytes) =
    elim (is_blank b) as (λ t. length (cond t (skip_blanks bytes) (b ∷ bytes)) ≤ suc (length bytes))
    [ true ↦ (let h = skip_blanks-length bytes in omega (arith, h)) | false ↦ omega arith ]

skip_blanks-yes : (b : ℕ) (bytes : List ℕ) → is_blank b ≡ true → skip_blanks (b ∷ bytes) ≡ skip_blanks bytes
skip_blanks-yes b bytes blank = rw blank refl

fits-from : (blank : Bool) (b : ℕ) (bytes : List ℕ) → is_blank b ≡ blank →
    (0 < length (word (skip_blanks (after_word bytes))) → length (word bytes) + length (word (skip_blanks (after_word bytes))) < length bytes) →
    0 < length (word (skip_blanks (cond blank (b ∷ bytes) (after_word bytes)))) →
    length (cond blank [] (b ∷ word bytes)) + length (word (skip_blanks (cond blank (b ∷ bytes) (after_word bytes)))) < suc (length bytes)
fits-from true b bytes stated ih h =
    let w = word-length (skip_blanks bytes) in
    let s = skip_blanks-length bytes in
    rw (skip_blanks-yes b bytes stated) (omega (arith, w, s))
fits-from false b bytes stated ih h = let rest = ih h in omega (arith, rest)

-- operation, a blank and operand are no longer than the bytes that they come from
pub spelling-fits : (bytes : List ℕ) → 0 < length (word (skip_blanks (after_word bytes))) → length (word bytes) + length (word (skip_blanks (after_word bytes))) < length bytes
spelling-fits [] h = h
spelling-fits (b ∷ bytes) h = fits-from (is_blank b) b bytes refl (spelling-fits bytes) h

-- a word and what follows it are all
pub word-cut : (bytes : List ℕ) → length (word bytes) + length (after_word bytes) ≡ length bytes
word-cut [] = refl
word-cut (b ∷ bytes) =
    elim (is_blank b) as (λ t. length (cond t [] (b ∷ word bytes)) + length (cond t (b ∷ bytes) (after_word bytes)) ≡ suc (length bytes))
    [ true ↦ omega arith | false ↦ (let h = word-cut bytes in omega (arith, h)) ]

-- a blank at least is between a word and what follows it
blank-cut : (bytes : List ℕ) → 0 < length (skip_blanks (after_word bytes)) → length (skip_blanks (after_word bytes)) < length (after_word bytes)
blank-cut [] some = some
blank-cut (b ∷ bytes) some = by_blank (is_blank b) refl some (blank-cut bytes)
  where
    by_blank : (t : Bool) → is_blank b ≡ t → 0 < length (skip_blanks (cond t (b ∷ bytes) (after_word bytes))) →
        (0 < length (skip_blanks (after_word bytes)) → length (skip_blanks (after_word bytes)) < length (after_word bytes)) →
        length (skip_blanks (cond t (b ∷ bytes) (after_word bytes))) < length (cond t (b ∷ bytes) (after_word bytes))
    by_blank true stated some ih = let s = skip_blanks-length bytes in rw (skip_blanks-yes b bytes stated) (omega (arith, s))
    by_blank false stated some ih = ih some

-- operation, operand and what follows it, with a blank before the operand
pub rest-fits : (bytes : List ℕ) →
    (length (word bytes) + length (after_word (skip_blanks (after_word bytes))) ≤ length bytes)
    × (0 < length (word (skip_blanks (after_word bytes))) → length (word bytes) + length (word (skip_blanks (after_word bytes))) + length (after_word (skip_blanks (after_word bytes))) < length bytes)
rest-fits bytes =
    let all = word-cut bytes in
    let operand = word-cut (skip_blanks (after_word bytes)) in
    let blanks = skip_blanks-length (after_word bytes) in
    (omega (arith, all, operand, blanks), λ some. (let blank = blank-cut bytes (omega (arith, some, operand)) in omega (arith, all, operand, blank)))

-- what is left of bytes
pub trim-length : (test : ℕ → Bool) (bytes : List ℕ) → length (trim test bytes) ≤ length bytes
trim-length test [] = omega arith
trim-length test (b ∷ bytes) =
    elim (every test (b ∷ bytes)) as (λ t. length (cond t [] (b ∷ trim test bytes)) ≤ suc (length bytes))
    [ true ↦ omega arith | false ↦ (let h = trim-length test bytes in omega (arith, h)) ]

-- the operation begins after column 1

pub after_word-length : (bytes : List ℕ) → length (after_word bytes) ≤ length bytes
after_word-length [] = omega arith
after_word-length (b ∷ bytes) =
    elim (is_blank b) as (λ t. length (cond t (b ∷ bytes) (after_word bytes)) ≤ suc (length bytes))
    [ true ↦ omega arith | false ↦ (let h = after_word-length bytes in omega (arith, h)) ]

after_word-no : (b : ℕ) (bytes : List ℕ) → is_blank b ≡ false → after_word (b ∷ bytes) ≡ after_word bytes
after_word-no b bytes other = rw other refl

after_word-yes : (b : ℕ) (bytes : List ℕ) → is_blank b ≡ true → after_word (b ∷ bytes) ≡ b ∷ bytes
after_word-yes b bytes blank = rw blank refl

behind-word : (bytes : List ℕ) → length (skip_blanks (after_word bytes)) ≤ length bytes
behind-word bytes = let s = skip_blanks-length (after_word bytes) in let a = after_word-length bytes in omega (arith, s, a)

behind-first : (blank : Bool) (b : ℕ) (bytes : List ℕ) → is_blank b ≡ blank → length (skip_blanks (after_word (b ∷ bytes))) ≤ length bytes
behind-first true b bytes stated = rw (after_word-yes b bytes stated, skip_blanks-yes b bytes stated) (skip_blanks-length bytes)
behind-first false b bytes stated = rw (after_word-no b bytes stated) (behind-word bytes)

behind-column : (t : Bool) (b : ℕ) (bytes : List ℕ) → (b == 32) ≡ t → length (skip_blanks (after_word (from_location (b ∷ bytes)))) ≤ length bytes
behind-column true b bytes stated = rw (from_location-yes b bytes stated) (behind-word bytes)
behind-column false b bytes stated = rw (from_location-no b bytes stated) (behind-first (is_blank b) b bytes refl)

pub from_operation_within : (line : List ℕ) → length (skip_blanks (after_word (from_location line))) ≤ length line - 1
from_operation_within [] = omega arith
from_operation_within (b ∷ bytes) = let h = behind-column (b == 32) b bytes refl in omega (arith, h)

-- THE END OF A LINE

pub every-push : (test : ℕ → Bool) (bytes : List ℕ) (b : ℕ) → every test (bytes ++ b ∷ []) ≡ (every test bytes && test b)
every-push test [] b = and-true (test b)
every-push test (a ∷ bytes) b =
    elim (test a) as (λ t. (t && every test (bytes ++ b ∷ [])) ≡ ((t && every test bytes) && test b))
    [ true ↦ every-push test bytes b | false ↦ refl ]

-- a byte at the end that passes falls away
pub trim-push_yes : (test : ℕ → Bool) (bytes : List ℕ) (b : ℕ) → test b ≡ true → trim test (bytes ++ b ∷ []) ≡ trim test bytes
trim-push_yes test [] b passes = rw passes refl
trim-push_yes test (a ∷ bytes) b passes =
    let h = trim-push_yes test bytes b passes in
    let e : every test (bytes ++ b ∷ []) ≡ every test bytes = every-push test bytes b ∙ (rw passes (and-true (every test bytes))) in
    rw (e, h) refl

-- and one that does not stays, with all before it
pub trim-push_no : (test : ℕ → Bool) (bytes : List ℕ) (b : ℕ) → test b ≡ false → trim test (bytes ++ b ∷ []) ≡ bytes ++ b ∷ []
trim-push_no test [] b fails = rw fails refl
trim-push_no test (a ∷ bytes) b fails =
    let h = trim-push_no test bytes b fails in
    let e : every test (bytes ++ b ∷ []) ≡ false = every-push test bytes b ∙ (rw fails (and-false (every test bytes))) in
    rw (e, h, and-false (test a)) refl

-- THE END THAT PASSES, found from the end on

pub trim-cut : (test : ℕ → Bool) (line : List ℕ) (end : ℕ) → 0 < end → end ≤ length line → test (get_or line (end - 1) 0) ≡ true → trim test (take (end - 1) line) ≡ trim test (take end line)
trim-cut test line zero some within passes = absurd (omega (arith, some))
trim-cut test line (suc n) some within passes =
    let less : suc n - 1 ≡ n = omega arith in
    let here : test (get_or line n 0) ≡ true = rw (← less) passes in
    rw (less, take-suc line n 0 (omega (arith, within))) (sym (trim-push_yes test (take n line) (get_or line n 0) here))

pub trim-none : (test : ℕ → Bool) (line : List ℕ) (end : ℕ) → end ≤ 0 → trim test (take end line) ≡ take end line
trim-none test line zero none = refl
trim-none test line (suc n) none = absurd (omega (arith, none))

pub trim-end : (test : ℕ → Bool) (line : List ℕ) (end : ℕ) → 0 < end → end ≤ length line → test (get_or line (end - 1) 0) ≡ false → trim test (take end line) ≡ take end line
trim-end test line zero some within fails = absurd (omega (arith, some))
trim-end test line (suc n) some within fails =
    let less : suc n - 1 ≡ n = omega arith in
    let here : test (get_or line n 0) ≡ false = rw (← less) fails in
    rw (take-suc line n 0 (omega (arith, within))) (trim-push_no test (take n line) (get_or line n 0) here)
