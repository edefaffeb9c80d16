-- Operands cut at commas and other bytes, and the numbers that their digits spell, for what an operation covers.
use Rattle.std.proofs.Common.{◌≡◌, ◌≤◌, ◌<◌, ◌+◌, ◌-◌, ◌*◌, ◌==◌, ℕ, zero, suc, Bool, true, false, if◌then◌else◌, min, Option, None, Some, List, [], ◌∷◌, length, nat_lt, take, drop, get_or, drop-cons}
use Rattle.std.proofs.Common.{add-one, refl, sym, ap, ◌∙◌, arith}
use Rattle.std.proofs.lemmas.Bool.{and_parts, false_from_ne_true}
use Rattle.memchr.specs.Find.{IsFirstByte, is_byte}
use Rattle.s66_isa.specs.{every}
use Rattle.s66_line.specs.{after_word, from_operand, from_operation}
use Rattle.s66_line.proofs.LineFields.{from_operation_within, skip_blanks-length, after_word-length}
use Rattle.s66_source.specs.{after_byte, after_comma, before_byte, counting_text, spelled_after}

-- THE FIRST OF SOME BYTE

later : (d b : ℕ) (bytes : List ℕ) (k : ℕ) → IsFirstByte (is_byte d) (b ∷ bytes) (Some (suc k)) → IsFirstByte (is_byte d) bytes (Some k)
later d b bytes k h =
    (record { low = omega arith; high = (let high = h.0.high in omega (arith, high)); before = λ i low below. h.0.before (suc i) (omega arith) (omega (arith, below)) }, h.1)

nowhere : (d b : ℕ) (bytes : List ℕ) → IsFirstByte (is_byte d) (b ∷ bytes) None → IsFirstByte (is_byte d) bytes None
nowhere d b bytes h = λ i low below. h (suc i) (omega arith) (omega (arith, below))

not-here : (d b : ℕ) (bytes : List ℕ) (k : ℕ) → IsFirstByte (is_byte d) (b ∷ bytes) (Some (suc k)) → (b == d) ≡ false
not-here d b bytes k h = false_from_ne_true (b == d) (h.0.before 0 (omega arith) (omega arith))

not-first : (d b : ℕ) (bytes : List ℕ) → IsFirstByte (is_byte d) (b ∷ bytes) None → (b == d) ≡ false
not-first d b bytes h = false_from_ne_true (b == d) (h 0 (omega arith) (omega arith))

pub after_byte-found : (d : ℕ) (bytes : List ℕ) (k : ℕ) → IsFirstByte (is_byte d) bytes (Some k) → after_byte d bytes ≡ Some (drop (k + 1) bytes)
after_byte-found d [] k h = absurd (let high = h.0.high in omega (arith, high))
after_byte-found d (b ∷ bytes) zero h = rw h.1 refl
after_byte-found d (b ∷ bytes) (suc k) h =
    let next : suc k + 1 ≡ suc (k + 1) = omega arith in
    rw (not-here d b bytes k h, next) (after_byte-found d bytes k (later d b bytes k h))

pub after_byte-none : (d : ℕ) (bytes : List ℕ) → IsFirstByte (is_byte d) bytes None → after_byte d bytes ≡ None
after_byte-none d [] h = refl
after_byte-none d (b ∷ bytes) h = rw (not-first d b bytes h) (after_byte-none d bytes (nowhere d b bytes h))

pub before_byte-found : (d : ℕ) (bytes : List ℕ) (k : ℕ) → IsFirstByte (is_byte d) bytes (Some k) → before_byte d bytes ≡ take k bytes
before_byte-found d [] k h = absurd (let high = h.0.high in omega (arith, high))
before_byte-found d (b ∷ bytes) zero h = rw h.1 refl
before_byte-found d (b ∷ bytes) (suc k) h = rw (not-here d b bytes k h) (ap (λ more. b ∷ more) (before_byte-found d bytes k (later d b bytes k h)))

pub before_byte-none : (d : ℕ) (bytes : List ℕ) → IsFirstByte (is_byte d) bytes None → before_byte d bytes ≡ bytes
before_byte-none d [] h = refl
before_byte-none d (b ∷ bytes) h = rw (not-first d b bytes h) (ap (λ more. b ∷ more) (before_byte-none d bytes (nowhere d b bytes h)))

-- nothing, if there is none
abbrev or_nothing : Option (List ℕ) → List ℕ
or_nothing None = []
or_nothing (Some bytes) = bytes

after_comma-found : (bytes : List ℕ) → after_comma bytes ≡ or_nothing (after_byte 44 bytes)
after_comma-found [] = refl
after_comma-found (b ∷ bytes) =
    elim (b == 44) as (λ t. (if t then bytes else after_comma bytes) ≡ or_nothing (if t then Some bytes else after_byte 44 bytes))
    [ true ↦ refl | false ↦ after_comma-found bytes ]

pub after_comma-some : (bytes rest : List ℕ) → Some rest ≡ after_byte 44 bytes → rest ≡ after_comma bytes
after_comma-some bytes rest found = ap or_nothing found ∙ sym (after_comma-found bytes)

pub after_comma-none : (bytes : List ℕ) → None ≡ after_byte 44 bytes → [] ≡ after_comma bytes
after_comma-none bytes none = ap or_nothing none ∙ sym (after_comma-found bytes)

-- NUMBERS

capped-digit : (limit m n d : ℕ) → min m limit ≡ min n limit → min (10 * m + d) limit ≡ min (10 * n + d) limit
capped-digit limit m n d same = omega arith

-- what is capped after each digit is the whole number, capped
pub capped-digits : (limit m n : ℕ) (bytes : List ℕ) → min m limit ≡ min n limit → min (spelled_after m bytes) limit ≡ min (spelled_after n bytes) limit
capped-digits limit m n [] same = same
capped-digits limit m n (b ∷ bytes) same = capped-digits limit (10 * m + (b - 48)) (10 * n + (b - 48)) bytes (capped-digit limit m n (b - 48) same)

same-twice : (limit n : ℕ) → min (min n limit) limit ≡ min n limit
same-twice limit n = omega arith

pub next-digit : (limit number capped i : ℕ) (digits : List ℕ) → i < length digits → capped ≡ min (10 * number + (get_or digits i 0 - 48)) limit →
    min (spelled_after capped (drop (i + 1) digits)) limit ≡ min (spelled_after number (drop i digits)) limit
next-digit limit number capped i digits below is =
    let more = 10 * number + (get_or digits i 0 - 48) in
    rw (drop-cons digits i 0, add-one, is) (capped-digits limit (min more limit) more (drop (suc i) digits) (same-twice limit more))

pub every-next : (test : ℕ → Bool) (bytes : List ℕ) (i : ℕ) → i < length bytes → every test (drop i bytes) ≡ true → every test (drop (i + 1) bytes) ≡ true
every-next test bytes i below all = rw add-one (and_parts (test (get_or bytes i 0)) (every test (drop (suc i) bytes)) (rw (drop-cons bytes i 0) at all)).1

-- OPERANDS are shorter than their lines

text-length : (near : Bool) (line : List ℕ) → length (if near then from_operand line else []) ≤ length line - 1
text-length false line = omega arith
text-length true line =
    let blanks = skip_blanks-length (after_word (from_operation line)) in
    let after = after_word-length (from_operation line) in
    let from = from_operation_within line in
    omega (arith, blanks, after, from)

pub counting_text-length : (line : List ℕ) → length (counting_text line) ≤ length line - 1
counting_text-length line = text-length (nat_lt (length line - length (from_operand line)) 29) line
