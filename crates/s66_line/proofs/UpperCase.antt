-- What letters in upper case leave of a line: its comment, its comma, its fields up to their case.
use Rattle.std.proofs.Common.{◌≡◌, ◌≤◌, ◌<◌, ◌-◌, ◌==◌, ◌&&◌, ◌||◌, ℕ, suc, Bool, true, false, if◌then◌else◌, List, [], ◌∷◌, ◌++◌, length, refl, sym, ap, ap₂, ◌∙◌, arith, eqb, nat_le, ne_eqb}
use Rattle.std.proofs.Common.{leb-true, lit<}
use Rattle.std.proofs.lemmas.Bool.{and_parts, and_left, cond_both, lt-leb}
use Rattle.s66_isa.specs.{every}
use Rattle.s66_line.specs.{is_blank, is_return, upper_byte, upper, trim, skip_blanks, word, after_word, blanks, is_comment, from_location, location, from_operation, operation, operand, label_bytes}
use Rattle.s66_line.specs.{continues, is_located}

-- BYTES

abbrev is_lower : ℕ → Bool
is_lower b = nat_le 97 b && nat_le b 122

lower-bounds : (b : ℕ) → is_lower b ≡ true → (97 ≤ b) × (b ≤ 122)
lower-bounds b e = let h = and_parts (nat_le 97 b) (nat_le b 122) e in (leb-true 97 b h.0, leb-true b 122 h.1)

-- a byte that is no letter is neither made nor lost
pub kept : (b c : ℕ) → c < 65 → eqb (upper_byte b) c ≡ eqb b c
kept b c h =
    cond_both (is_lower b) (b - 32) b (λ u. eqb u c ≡ eqb b c)
    (λ e. let bounds = lower-bounds b e in
    ne_eqb (b - 32) c (λ same. omega (arith, h, bounds, same)) ∙ sym (ne_eqb b c (λ same. omega (arith, h, bounds, same))))
    (λ e. refl)

-- what is in upper case stays
pub upper_byte-twice : (b : ℕ) → upper_byte (upper_byte b) ≡ upper_byte b
upper_byte-twice b =
    cond_both (is_lower b) (b - 32) b (λ u. upper_byte u ≡ u)
    (λ e. let bounds = lower-bounds b e in
    let small : is_lower (b - 32) ≡ false = and_left (nat_le 97 (b - 32)) (nat_le (b - 32) 122) (lt-leb 97 (b - 32) (omega (arith, bounds))) in
    rw small refl)
    (λ e. rw e refl)

pub upper-twice : (text : List ℕ) → upper (upper text) ≡ upper text
upper-twice [] = refl
upper-twice (b ∷ text) = rw (upper_byte-twice b, upper-twice text) refl

pub length-upper : (text : List ℕ) → length (upper text) ≡ length text
length-upper [] = refl
length-upper (b ∷ text) = ap suc (length-upper text)

pub upper-append : (text more : List ℕ) → upper (text ++ more) ≡ upper text ++ upper more
upper-append [] more = refl
upper-append (b ∷ text) more = ap (λ bytes. upper_byte b ∷ bytes) (upper-append text more)

pub upper-if : (t : Bool) (text more : List ℕ) → upper (if t then text else more) ≡ (if t then upper text else upper more)
upper-if true text more = refl
upper-if false text more = refl

-- FIELDS

pub blank-kept : (b : ℕ) → is_blank (upper_byte b) ≡ is_blank b
blank-kept b = ap₂ (λ s t. s || t) (kept b 32 (lit< tt)) (kept b 9 (lit< tt))

return-kept : (b : ℕ) → is_return (upper_byte b) ≡ is_return b
return-kept b = kept b 13 (lit< tt)

every-return : (text : List ℕ) → every is_return (upper text) ≡ every is_return text
every-return [] = refl
every-return (b ∷ text) = rw (return-kept b, every-return text) refl

pub upper-trim : (text : List ℕ) → trim is_return (upper text) ≡ upper (trim is_return text)
upper-trim [] = refl
upper-trim (b ∷ text) =
    rw (upper-if (every is_return (b ∷ text)) [] (b ∷ trim is_return text), return-kept b, every-return text, upper-trim text) refl

pub upper-skip_blanks : (text : List ℕ) → skip_blanks (upper text) ≡ upper (skip_blanks text)
upper-skip_blanks [] = refl
upper-skip_blanks (b ∷ text) = rw (upper-if (is_blank b) (skip_blanks text) (b ∷ text), blank-kept b, upper-skip_blanks text) refl

pub upper-word : (text : List ℕ) → word (upper text) ≡ upper (word text)
upper-word [] = refl
upper-word (b ∷ text) = rw (upper-if (is_blank b) [] (b ∷ word text), blank-kept b, upper-word text) refl

pub upper-after_word : (text : List ℕ) → after_word (upper text) ≡ upper (after_word text)
upper-after_word [] = refl
upper-after_word (b ∷ text) = rw (upper-if (is_blank b) (b ∷ text) (after_word text), blank-kept b, upper-after_word text) refl

upper-from_location : (line : List ℕ) → from_location (upper line) ≡ upper (from_location line)
upper-from_location [] = refl
upper-from_location (b ∷ line) = rw (upper-if (b == 32) line (b ∷ line), kept b 32 (lit< tt)) refl

pub upper-from_operation : (line : List ℕ) → from_operation (upper line) ≡ upper (from_operation line)
upper-from_operation line =
    ap (λ l. skip_blanks (after_word l)) (upper-from_location line) ∙ ap skip_blanks (upper-after_word (from_location line)) ∙ upper-skip_blanks (after_word (from_location line))

pub same-location : (line : List ℕ) → is_located (upper line) ≡ is_located line
same-location line =
    let same : length (location (upper line)) ≡ length (location line) =
    ap length (ap word (upper-from_location line) ∙ upper-word (from_location line)) ∙ length-upper (location line) in
    rw same refl

pub same-operation : (line : List ℕ) → upper (operation (upper line)) ≡ upper (operation line)
same-operation line =
    ap upper (ap word (upper-from_operation line) ∙ upper-word (from_operation line)) ∙ upper-twice (operation line)

pub same-operand : (line : List ℕ) → upper (operand (upper line)) ≡ upper (operand line)
same-operand line =
    let rest : List ℕ = from_operation line in
    ap upper
    (ap (λ l. word (skip_blanks (after_word l))) (upper-from_operation line)
    ∙ ap (λ l. word (skip_blanks l)) (upper-after_word rest)
    ∙ ap word (upper-skip_blanks (after_word rest))
    ∙ upper-word (skip_blanks (after_word rest)))
    ∙ upper-twice (operand line)

same-blanks : (line : List ℕ) → blanks (upper line) ≡ blanks line
same-blanks line = ap₂ (λ m n. m - n) (length-upper line) (ap length (upper-skip_blanks line) ∙ length-upper (skip_blanks line))

pub same-comment : (line : List ℕ) → is_comment (upper line) ≡ is_comment line
same-comment [] = refl
same-comment (b ∷ line) =
    let n = same-blanks (b ∷ line) in
    let l = length-upper line in
    rw (n, l, kept b 42 (lit< tt)) refl

pub same-continues : (line : List ℕ) → continues (upper line) ≡ continues line
same-continues [] = refl
same-continues (b ∷ line) = kept b 44 (lit< tt)

pub upper-label_bytes : (line : List ℕ) → label_bytes (upper line) ≡ upper (label_bytes line)
upper-label_bytes [] = refl
upper-label_bytes (b ∷ bytes) =
    ap (λ t. if t then 32 ∷ word (upper bytes) else word (upper (b ∷ bytes))) (kept b 32 (lit< tt))
    ∙ ap₂ (λ xs ys. if b == 32 then 32 ∷ xs else ys) (upper-word bytes) (upper-word (b ∷ bytes))
    ∙ sym (upper-if (b == 32) (32 ∷ word bytes) (word (b ∷ bytes)))
