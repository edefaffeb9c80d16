-- The whole text of an instruction: its operation, its operand and the characters that go on behind the operand's blank are those of the bytes.
use Rattle.std.proofs.Common.{◌≡◌, ◌∙◌, ℕ, zero, suc, Bool, true, false, if◌then◌else◌, List, [], ◌∷◌, ◌++◌, Option, None, Some, take, refl, sym, ap, append_assoc}
use Rattle.s66_isa.specs.{every}
use Rattle.s66_line.specs.{begins_blank, characters_in, cut, place_after, rest_in, still_taken, taken_in, after_word, is_blank, is_trailing, skip_blanks, trim, upper, word, operand_in, operation_in}
use Rattle.s66_line.specs.{spelling, AtTerm}
use Rattle.s66_line.proofs.InstructionTexts.{after-before, filled-parts, is_no_blank, no_blank-word, word-before}
use Rattle.s66_line.proofs.LineFields.{skip_blanks-no}
use Rattle.s66_line.proofs.UpperCase.{blank-kept, upper-twice, upper-word}

-- A BLANK BEGINS THE CHARACTERS, or there are none

blank-rest : (bytes : List ℕ) → begins_blank (after_word bytes) ≡ true
blank-rest [] = refl
blank-rest (b ∷ bytes) = by_blank (is_blank b) refl (blank-rest bytes)
  where
    by_blank : (t : Bool) → is_blank b ≡ t → begins_blank (after_word bytes) ≡ true → begins_blank (if t then b ∷ bytes else after_word bytes) ≡ true
    by_blank true stated later = stated
    by_blank false stated later = later

blank-take : (n : ℕ) (rest : List ℕ) → begins_blank rest ≡ true → begins_blank (take n rest) ≡ true
blank-take zero [] h = refl
blank-take zero (b ∷ rest) h = refl
blank-take (suc n) [] h = refl
blank-take (suc n) (b ∷ rest) h = h

blank-trim : (test : ℕ → Bool) (rest : List ℕ) → begins_blank rest ≡ true → begins_blank (trim test rest) ≡ true
blank-trim test [] h = refl
blank-trim test (b ∷ rest) h = elim (every test (b ∷ rest)) as (λ e. begins_blank (if e then [] else b ∷ trim test rest) ≡ true) [ true ↦ refl | false ↦ h ]

blank-upper : (rest : List ℕ) → begins_blank (upper rest) ≡ begins_blank rest
blank-upper [] = refl
blank-upper (b ∷ rest) = blank-kept b

blank-cut : (taken : Option ℕ) (rest : List ℕ) → begins_blank rest ≡ true → begins_blank (cut taken rest) ≡ true
blank-cut None rest h = refl
blank-cut (Some n) rest h = blank-upper (trim is_trailing (take n rest)) ∙ blank-trim is_trailing (take n rest) (blank-take n rest h)

blank-characters : (bytes : List ℕ) → begins_blank (characters_in bytes) ≡ true
blank-characters bytes = blank-cut (taken_in bytes) (rest_in bytes) (blank-rest (skip_blanks (after_word bytes)))

none-taken : (rest : List ℕ) → cut (Some 0) rest ≡ []
none-taken [] = refl
none-taken (b ∷ rest) = refl

-- none follow where there is no operand
no-characters : (bytes : List ℕ) → operand_in bytes ≡ [] → characters_in bytes ≡ []
no-characters bytes empty = ap (λ operand. cut (still_taken (place_after AtTerm operand) (rest_in bytes)) (rest_in bytes)) empty ∙ none-taken (rest_in bytes)

-- A WORD, and then bytes that a blank begins

word-ahead : (bytes more : List ℕ) → every is_no_blank bytes ≡ true → begins_blank more ≡ true → word (bytes ++ more) ≡ bytes
word-ahead [] [] h k = refl
word-ahead [] (c ∷ more) h k = rw k refl
word-ahead (b ∷ bytes) more h k =
    let parts = filled-parts b bytes h in
    rw parts.0 (ap (λ w. b ∷ w) (word-ahead bytes more parts.1 k))

after-ahead : (bytes more : List ℕ) → every is_no_blank bytes ≡ true → begins_blank more ≡ true → after_word (bytes ++ more) ≡ more
after-ahead [] [] h k = refl
after-ahead [] (c ∷ more) h k = rw k refl
after-ahead (b ∷ bytes) more h k =
    let parts = filled-parts b bytes h in
    rw parts.0 (after-ahead bytes more parts.1 k)

no_blank-upper_word : (bytes : List ℕ) → every is_no_blank (upper (word bytes)) ≡ true
no_blank-upper_word bytes = ap (every is_no_blank) (sym (upper-word bytes)) ∙ no_blank-word (upper bytes)

-- AN OPERATION, an operand, and then characters, which are none where there is no operand

front : (operation operand characters : List ℕ) → every is_no_blank operation ≡ true → (operand ≡ [] → characters ≡ []) → word (spelling operation operand ++ characters) ≡ operation
front operation [] characters h none = ap (λ more. word (operation ++ more)) (none refl) ∙ word-ahead operation [] h refl
front operation (b ∷ operand) characters h none =
    ap word (append_assoc operation (32 ∷ b ∷ operand) characters) ∙ word-before operation ((b ∷ operand) ++ characters) h

behind : (operation operand characters : List ℕ) → every is_no_blank operation ≡ true → every is_no_blank operand ≡ true → (operand ≡ [] → characters ≡ []) →
    skip_blanks (after_word (spelling operation operand ++ characters)) ≡ operand ++ characters
behind operation [] characters h k none =
    ap (λ more. skip_blanks (after_word (operation ++ more))) (none refl) ∙ ap skip_blanks (after-ahead operation [] h refl) ∙ sym (none refl)
behind operation (b ∷ operand) characters h k none =
    ap (λ bytes. skip_blanks (after_word bytes)) (append_assoc operation (32 ∷ b ∷ operand) characters)
    ∙ ap skip_blanks (after-before operation ((b ∷ operand) ++ characters) h)
    ∙ skip_blanks-no b (operand ++ characters) (filled-parts b operand k).0

-- THE WHOLE TEXT of bytes

abbrev pub whole_text_in : List ℕ → List ℕ
whole_text_in bytes = spelling (operation_in bytes) (operand_in bytes) ++ characters_in bytes

pub operation_in-whole : (bytes : List ℕ) → operation_in (whole_text_in bytes) ≡ operation_in bytes
operation_in-whole bytes =
    ap upper (front (operation_in bytes) (operand_in bytes) (characters_in bytes) (no_blank-upper_word bytes) (no-characters bytes)) ∙ upper-twice (word bytes)

behind-whole : (bytes : List ℕ) → skip_blanks (after_word (whole_text_in bytes)) ≡ operand_in bytes ++ characters_in bytes
behind-whole bytes =
    behind (operation_in bytes) (operand_in bytes) (characters_in bytes) (no_blank-upper_word bytes) (no_blank-upper_word (skip_blanks (after_word bytes))) (no-characters bytes)

pub operand_in-whole : (bytes : List ℕ) → operand_in (whole_text_in bytes) ≡ operand_in bytes
operand_in-whole bytes =
    let rest : List ℕ = skip_blanks (after_word bytes) in
    ap (λ more. upper (word more)) (behind-whole bytes)
    ∙ ap upper (word-ahead (operand_in bytes) (characters_in bytes) (no_blank-upper_word rest) (blank-characters bytes))
    ∙ upper-twice (word rest)

pub rest_in-whole : (bytes : List ℕ) → rest_in (whole_text_in bytes) ≡ characters_in bytes
rest_in-whole bytes =
    ap after_word (behind-whole bytes) ∙ after-ahead (operand_in bytes) (characters_in bytes) (no_blank-upper_word (skip_blanks (after_word bytes))) (blank-characters bytes)
