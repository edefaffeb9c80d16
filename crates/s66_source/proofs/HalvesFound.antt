-- Where a text is parted into two sources, by its lines (`halves_of`).
use Rattle.std.proofs.Common.{◌≡◌, ◌+◌, ◌==◌, ℕ, zero, suc, true, false, if◌then◌else◌, Option, None, Some, List, [], ◌∷◌, ◌++◌, take, drop, refl, sym, ap, ap₂, ◌∙◌, arith, append_assoc, take-add}
use Rattle.std.proofs.Common.{eqb-true, append-nil, drop-drop}
use Rattle.std.proofs.lemmas.Bool.{false_from_ne_true}
use Rattle.s66_line.proofs.LineCuts.{IsFirstNewline, later, nowhere}
use Rattle.s66_source.specs.Halves.{Halves}
use Rattle.s66_source.specs.{halves_from, halves_of, is_new_mark}

-- a line ends here
abbrev at_line : List ℕ → List ℕ → List ℕ → Option Halves
at_line old line rest = if is_new_mark line then Some (record { old = old; new = rest }) else halves_from (old ++ line ++ 10 ∷ []) [] rest

here : (old line bytes : List ℕ) (b : ℕ) → (b == 10) ≡ true → halves_from old line (b ∷ bytes) ≡ at_line old line bytes
here old line bytes b stated = rw stated refl

goes-on : (old line bytes : List ℕ) (b : ℕ) → (b == 10) ≡ false → halves_from old line (b ∷ bytes) ≡ halves_from old (line ++ b ∷ []) bytes
goes-on old line bytes b stated = rw stated refl

-- the line that is begun ends there
found : (old line bytes : List ℕ) (k : ℕ) → IsFirstNewline bytes (Some k) → halves_from old line bytes ≡ at_line old (line ++ take k bytes) (drop (k + 1) bytes)
found old line [] k h = absurd (let high = h.0.high in omega (arith, high))
found old line (b ∷ bytes) zero h = here old line bytes b h.1 ∙ ap (λ l. at_line old l bytes) (sym (append-nil line))
found old line (b ∷ bytes) (suc k) h =
    let next : suc k + 1 ≡ suc (k + 1) = omega arith in
    goes-on old line bytes b (false_from_ne_true (b == 10) (h.0.before 0 (omega arith) (omega arith)))
    ∙ found old (line ++ b ∷ []) bytes k (later b bytes k h)
    ∙ rw next (ap (λ l. at_line old l (drop (k + 1) bytes)) (append_assoc line (b ∷ []) (take k bytes)))

-- or goes on to the end
pub not-found : (old line bytes : List ℕ) → IsFirstNewline bytes None → halves_from old line bytes ≡ halves_from old (line ++ bytes) []
not-found old line [] h = ap (λ l. halves_from old l []) (sym (append-nil line))
not-found old line (b ∷ bytes) h =
    goes-on old line bytes b (false_from_ne_true (b == 10) (h 0 (omega arith) (omega arith)))
    ∙ not-found old (line ++ b ∷ []) bytes (nowhere b bytes h)
    ∙ ap (λ l. halves_from old l []) (append_assoc line (b ∷ []) bytes)

pub found-mark : (old bytes : List ℕ) (k : ℕ) → IsFirstNewline bytes (Some k) → is_new_mark (take k bytes) ≡ true → halves_from old [] bytes ≡ Some (record { old = old; new = drop (k + 1) bytes })
found-mark old bytes k h is = found old [] bytes k h ∙ rw is refl

pub found-other : (old bytes : List ℕ) (k : ℕ) → IsFirstNewline bytes (Some k) → is_new_mark (take k bytes) ≡ false → halves_from old [] bytes ≡ halves_from (old ++ take k bytes ++ 10 ∷ []) [] (drop (k + 1) bytes)
found-other old bytes k h other = found old [] bytes k h ∙ rw other refl

pub last-mark : (old bytes : List ℕ) → IsFirstNewline bytes None → is_new_mark bytes ≡ true → halves_from old [] bytes ≡ Some (record { old = old; new = [] })
last-mark old bytes h is = not-found old [] bytes h ∙ rw is refl

pub last-other : (old bytes : List ℕ) → IsFirstNewline bytes None → is_new_mark bytes ≡ false → halves_from old [] bytes ≡ None
last-other old bytes h other = not-found old [] bytes h ∙ rw other refl

-- a line with its newline, and what follows
pub newline-found : (bytes : List ℕ) (k : ℕ) → IsFirstNewline bytes (Some k) → take (k + 1) bytes ≡ take k bytes ++ 10 ∷ []
newline-found [] k h = absurd (let high = h.0.high in omega (arith, high))
newline-found (b ∷ bytes) zero h = ap (λ c. c ∷ []) (eqb-true b 10 h.1)
newline-found (b ∷ bytes) (suc k) h =
    let next : suc k + 1 ≡ suc (k + 1) = omega arith in
    ap (λ n. take n (b ∷ bytes)) next ∙ ap (λ l. b ∷ l) (newline-found bytes k (later b bytes k h))

-- IN A TEXT, of which no line that ends before this place is a mark

drop-more : (begin k : ℕ) (text : List ℕ) → drop (k + 1) (drop begin text) ≡ drop (begin + k + 1) text
drop-more begin k text =
    let same : begin + (k + 1) ≡ begin + k + 1 = omega arith in
    drop-drop (k + 1) begin text ∙ ap (λ n. drop n text) same

pub mark-here : (text : List ℕ) (begin k : ℕ) → IsFirstNewline (drop begin text) (Some k) → is_new_mark (take k (drop begin text)) ≡ true → halves_from (take begin text) [] (drop begin text) ≡ halves_of text →
    Some (record { old = take begin text; new = drop (begin + k + 1) text }) ≡ halves_of text
mark-here text begin k first is none =
    ap (λ (new : List ℕ). Some (record { old = take begin text; new = new })) (sym (drop-more begin k text)) ∙ sym (found-mark (take begin text) (drop begin text) k first is) ∙ none

pub mark-later : (text : List ℕ) (begin k : ℕ) → IsFirstNewline (drop begin text) (Some k) → is_new_mark (take k (drop begin text)) ≡ false → halves_from (take begin text) [] (drop begin text) ≡ halves_of text →
    halves_from (take (begin + k + 1) text) [] (drop (begin + k + 1) text) ≡ halves_of text
mark-later text begin k first other none =
    let same : begin + k + 1 ≡ begin + (k + 1) = omega arith in
    ap₂ (λ old new. halves_from old [] new)
    (ap (λ n. take n text) same ∙ take-add begin (k + 1) text ∙ ap (λ line. take begin text ++ line) (newline-found (drop begin text) k first) ∙ sym (append_assoc (take begin text) (take k (drop begin text)) (10 ∷ [])))
    (sym (drop-more begin k text))
    ∙ sym (found-other (take begin text) (drop begin text) k first other) ∙ none
