-- A text cut into lines at its newlines, as `cut_line` finds them.
use Rattle.std.proofs.Common.{◌≡◌, ◌+◌, ◌==◌, ℕ, zero, suc, true, false, Option, None, Some, List, [], ◌∷◌, ◌++◌, take, drop, refl, sym, ap, ◌∙◌, arith, append_assoc, append-nil}
use Rattle.std.proofs.lemmas.Bool.{false_from_ne_true}
use Rattle.memchr.specs.Find.{IsFirstByte, is_byte}
use Rattle.s66_line.specs.{last_line, lines_from}

-- the first newline of these bytes
abbrev pub IsFirstNewline : List ℕ → Option ℕ → Type 0
IsFirstNewline bytes index = IsFirstByte (is_byte 10) bytes index

pub later : (b : ℕ) (bytes : List ℕ) (k : ℕ) → IsFirstNewline (b ∷ bytes) (Some (suc k)) → IsFirstNewline bytes (Some k)
later b bytes k h =
    (record { low = omega arith; high = (let high = h.0.high in omega (arith, high)); before = λ i low below. h.0.before (suc i) (omega arith) (omega (arith, below)) }, h.1)

pub nowhere : (b : ℕ) (bytes : List ℕ) → IsFirstNewline (b ∷ bytes) None → IsFirstNewline bytes None
nowhere b bytes h = λ i low below. h (suc i) (omega arith) (omega (arith, below))

pub lines_from-here : (line bytes : List ℕ) (b : ℕ) → (b == 10) ≡ true → lines_from line (b ∷ bytes) ≡ line ∷ lines_from [] bytes
lines_from-here line bytes b stated = rw stated refl

pub lines_from-later : (line bytes : List ℕ) (b : ℕ) → (b == 10) ≡ false → lines_from line (b ∷ bytes) ≡ lines_from (line ++ b ∷ []) bytes
lines_from-later line bytes b stated = rw stated refl

-- the line that is begun ends there
pub lines_from-found : (line bytes : List ℕ) (k : ℕ) → IsFirstNewline bytes (Some k) → lines_from line bytes ≡ (line ++ take k bytes) ∷ lines_from [] (drop (k + 1) bytes)
lines_from-found line [] k h = absurd (let high = h.0.high in omega (arith, high))
lines_from-found line (b ∷ bytes) zero h = lines_from-here line bytes b h.1 ∙ ap (λ l. l ∷ lines_from [] bytes) (sym (append-nil line))
lines_from-found line (b ∷ bytes) (suc k) h =
    let next : suc k + 1 ≡ suc (k + 1) = omega arith in
    lines_from-later line bytes b (false_from_ne_true (b == 10) (h.0.before 0 (omega arith) (omega arith)))
    ∙ lines_from-found (line ++ b ∷ []) bytes k (later b bytes k h)
    ∙ rw next (ap (λ l. l ∷ lines_from [] (drop (k + 1) bytes)) (append_assoc line (b ∷ []) (take k bytes)))

-- or goes on to the end
lines_from-none : (line bytes : List ℕ) → IsFirstNewline bytes None → lines_from line bytes ≡ last_line (line ++ bytes)
lines_from-none line [] h = ap last_line (sym (append-nil line))
lines_from-none line (b ∷ bytes) h =
    lines_from-later line bytes b (false_from_ne_true (b == 10) (h 0 (omega arith) (omega arith)))
    ∙ lines_from-none (line ++ b ∷ []) bytes (nowhere b bytes h)
    ∙ ap last_line (append_assoc line (b ∷ []) bytes)

-- the last line, which lacks its newline
pub last-none : (bytes : List ℕ) → IsFirstNewline bytes None → lines_from [] bytes ≡ lines_from bytes []
last-none bytes none = lines_from-none [] bytes none
