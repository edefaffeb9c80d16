-- The text of an instruction: its words are the operation and the operand that it is made of.
use Rattle.std.proofs.Common.{◌≡◌, ◌≤◌, ◌<◌, ◌+◌, ◌-◌, ℕ, Bool, true, false, not, true≢false, List, [], ◌∷◌, ◌++◌, length, take, Option, None, Some, is_some, refl, sym, ap, ap₂, ◌∙◌, arith}
use Rattle.std.proofs.Common.{length-append, length-take}
use Rattle.std.proofs.lemmas.Bool.{and_parts, not-true}
use Rattle.std.proofs.Math.Nat.{min-le_right}
use Rattle.s66_isa.specs.{Instr, every}
use Rattle.s66_line.specs.{TEXT_LIMIT, is_blank, is_trailing, trim, upper, word, after_word, skip_blanks, instr_of, spelling, operation_in, operand_in, Spells, IsTextOf, IsInstruction, characters_in}
use Rattle.s66_line.specs.{cut, rest_in, taken_in}
use Rattle.s66_line.proofs.LineFields.{word-length, skip_blanks-no, spelling-fits, rest-fits, trim-length}
use Rattle.s66_line.proofs.UpperCase.{length-upper, blank-kept, upper-twice}

abbrev pub is_no_blank : ℕ → Bool
is_no_blank b = not (is_blank b)

-- the first byte isn't blank, and so on
pub filled-parts : (b : ℕ) (bytes : List ℕ) → every is_no_blank (b ∷ bytes) ≡ true → (is_blank b ≡ false) × (every is_no_blank bytes ≡ true)
filled-parts b bytes h =
    let both = and_parts (is_no_blank b) (every is_no_blank bytes) h in
    (not-true (is_blank b) both.0, both.1)

word-alone : (bytes : List ℕ) → every is_no_blank bytes ≡ true → word bytes ≡ bytes
word-alone [] h = refl
word-alone (b ∷ bytes) h =
    let parts = filled-parts b bytes h in
    rw parts.0 (ap (λ w. b ∷ w) (word-alone bytes parts.1))

pub word-before : (bytes more : List ℕ) → every is_no_blank bytes ≡ true → word (bytes ++ 32 ∷ more) ≡ bytes
word-before [] more h = refl
word-before (b ∷ bytes) more h =
    let parts = filled-parts b bytes h in
    rw parts.0 (ap (λ w. b ∷ w) (word-before bytes more parts.1))

after-alone : (bytes : List ℕ) → every is_no_blank bytes ≡ true → after_word bytes ≡ []
after-alone [] h = refl
after-alone (b ∷ bytes) h =
    let parts = filled-parts b bytes h in
    rw parts.0 (after-alone bytes parts.1)

pub after-before : (bytes more : List ℕ) → every is_no_blank bytes ≡ true → after_word (bytes ++ 32 ∷ more) ≡ 32 ∷ more
after-before [] more h = refl
after-before (b ∷ bytes) more h =
    let parts = filled-parts b bytes h in
    rw parts.0 (after-before bytes more parts.1)

operation-of : (operation operand : List ℕ) → every is_no_blank operation ≡ true → word (spelling operation operand) ≡ operation
operation-of operation [] h = word-alone operation h
operation-of operation (b ∷ operand) h = word-before operation (b ∷ operand) h

operand-of : (operation operand : List ℕ) → every is_no_blank operation ≡ true → every is_no_blank operand ≡ true →
    skip_blanks (after_word (spelling operation operand)) ≡ operand
operand-of operation [] h k = ap skip_blanks (after-alone operation h)
operand-of operation (b ∷ operand) h k =
    ap skip_blanks (after-before operation (b ∷ operand) h) ∙ skip_blanks-no b operand (filled-parts b operand k).0

-- WORDS IN UPPER CASE

no_blank-first : (t : Bool) (b : ℕ) (bytes : List ℕ) → is_blank b ≡ t → every is_no_blank (word bytes) ≡ true → every is_no_blank (word (b ∷ bytes)) ≡ true
no_blank-first true b bytes stated h = rw stated refl
no_blank-first false b bytes stated h = rw (stated, stated) h

pub no_blank-word : (bytes : List ℕ) → every is_no_blank (word bytes) ≡ true
no_blank-word [] = refl
no_blank-word (b ∷ bytes) = no_blank-first (is_blank b) b bytes refl (no_blank-word bytes)

no_blank-upper : (bytes : List ℕ) → every is_no_blank (upper bytes) ≡ every is_no_blank bytes
no_blank-upper [] = refl
no_blank-upper (b ∷ bytes) = rw (blank-kept b, no_blank-upper bytes) refl

no_blank-upper_word : (bytes : List ℕ) → every is_no_blank (upper (word bytes)) ≡ true
no_blank-upper_word bytes = no_blank-upper (word bytes) ∙ no_blank-word bytes

-- what was spelled has the operation and the operand that it was made of
pub operation_in-spelling : (bytes : List ℕ) → operation_in (spelling (operation_in bytes) (operand_in bytes)) ≡ operation_in bytes
operation_in-spelling bytes =
    ap upper (operation-of (operation_in bytes) (operand_in bytes) (no_blank-upper_word bytes)) ∙ upper-twice (word bytes)

pub operand_in-spelling : (bytes : List ℕ) → operand_in (spelling (operation_in bytes) (operand_in bytes)) ≡ operand_in bytes
operand_in-spelling bytes =
    let rest : List ℕ = skip_blanks (after_word bytes) in
    ap (λ w. upper (word w)) (operand-of (operation_in bytes) (operand_in bytes) (no_blank-upper_word bytes) (no_blank-upper_word rest))
    ∙ ap upper (word-alone (operand_in bytes) (no_blank-upper_word rest))
    ∙ upper-twice (word rest)

-- it is no longer than the bytes that it comes from

spelling-length : (operation operand : List ℕ) (most : ℕ) → length operation ≤ most → (0 < length operand → length operation + length operand < most) →
    length (spelling operation operand) ≤ most
spelling-length operation [] most h k = h
spelling-length operation (b ∷ operand) most h k = let fits = k (omega arith) in omega (arith, fits, length-append operation (32 ∷ b ∷ operand))

pub spelling-within : (bytes : List ℕ) → length (spelling (operation_in bytes) (operand_in bytes)) ≤ length bytes
spelling-within bytes =
    let o = length-upper (word bytes) in
    let p = length-upper (word (skip_blanks (after_word bytes))) in
    let w = word-length bytes in
    spelling-length (operation_in bytes) (operand_in bytes) (length bytes) (omega (arith, o, w))
    (λ some. let fits = spelling-fits bytes (omega (arith, some, p)) in omega (arith, fits, o, p))

-- with the characters that go on behind the operand's blank, too

characters-length : (taken : Option ℕ) (rest : List ℕ) → length (cut taken rest) ≤ length rest
characters-length None rest = omega arith
characters-length (Some n) rest =
    let up = length-upper (trim is_trailing (take n rest)) in
    let kept = trim-length is_trailing (take n rest) in
    let part = length-take n rest in
    let least = min-le_right n (length rest) in
    omega (arith, up, kept, part, least)

pub characters_fit : (bytes : List ℕ) → length (spelling (operation_in bytes) (operand_in bytes)) + length (characters_in bytes) ≤ length bytes
characters_fit bytes =
    let o = length-upper (word bytes) in
    let p = length-upper (word (skip_blanks (after_word bytes))) in
    let fits = rest-fits bytes in
    let rest = length (rest_in bytes) in
    let c = characters-length (taken_in bytes) (rest_in bytes) in
    let spelled = spelling-length (operation_in bytes) (operand_in bytes) (length bytes - rest) (omega (arith, o, fits.0))
    (λ some. (let more = fits.1 (omega (arith, some, p)) in omega (arith, more, o, p))) in
    omega (arith, spelled, c, fits.0)

-- so it is the text of the instruction that these bytes spell
pub text-of_bytes : (bytes : List ℕ) (n : Instr) → Spells bytes n → length bytes ≤ TEXT_LIMIT → IsTextOf (spelling (operation_in bytes) (operand_in bytes)) n
text-of_bytes bytes n spells few =
    let within = spelling-within bytes in
    record {
      whole = ap₂ spelling (sym (operation_in-spelling bytes)) (sym (operand_in-spelling bytes));
      spells = ap₂ instr_of (operation_in-spelling bytes) (operand_in-spelling bytes) ∙ spells;
      fits = omega (arith, within, few);
    }

-- WHICH TEXTS ARE INSTRUCTIONS

instruction-by : (text : List ℕ) (o : Option Instr) → instr_of (operation_in text) (operand_in text) ≡ o → is_some o ≡ true →
    text ≡ spelling (operation_in text) (operand_in text) → length text ≤ TEXT_LIMIT → IsInstruction text
instruction-by text None e some whole fits = absurd (true≢false (sym some))
instruction-by text (Some n) e some whole fits = record { instr = n; is_text = record { whole = whole; spells = e; fits = fits } }

pub instruction : (text : List ℕ) → is_some (instr_of (operation_in text) (operand_in text)) ≡ true → text ≡ spelling (operation_in text) (operand_in text) →
    length text ≤ TEXT_LIMIT → IsInstruction text
instruction text some whole fits = instruction-by text (instr_of (operation_in text) (operand_in text)) refl some whole fits

-- WHICH ARE NONE
