-- Words of a line with one blank between two: cut at the blank, and put together again.
use Rattle.std.specs.Int.{IsInRange}
use Rattle.std.proofs.Common.{◌≡◌, ◌≤◌, ◌<◌, ◌^◌, ℕ, Bool, true, false, List, [], ◌∷◌, ◌++◌, map, Option, None, Some, refl, sym, ap, ◌∙◌, arith, eqb, eqb-true, append-nil, decimal}
use Rattle.std.proofs.lemmas.Bool.{and_parts, not-true}
use Rattle.s66_isa.specs.{every, after_blanks}
use Rattle.s66_cert.specs.{AreIn, first_word, after_first_word, put_front, words_of, words_in, number_in, numbers_in, consed_if}
use Rattle.s66_cert.proofs.NumberTexts.{is_other, number-again, number-is, decimal-clear}

abbrev pub IsWord : List ℕ → Type 0
IsWord w = every (is_other 32) w ≡ true

pub word-parts : (b : ℕ) (w : List ℕ) → IsWord (b ∷ w) → (eqb b 32 ≡ false) × IsWord w
word-parts b w h = let both = and_parts (is_other 32 b) (every (is_other 32) w) h in (not-true (eqb b 32) both.0, both.1)

-- CUT

pub first-before : (w r : List ℕ) → IsWord w → first_word (w ++ 32 ∷ r) ≡ w
first-before [] r h = refl
first-before (b ∷ w) r h = let parts = word-parts b w h in rw parts.0 (ap (λ x. b ∷ x) (first-before w r parts.1))

pub after-before : (w r : List ℕ) → IsWord w → after_first_word (w ++ 32 ∷ r) ≡ Some r
after-before [] r h = refl
after-before (b ∷ w) r h = let parts = word-parts b w h in rw parts.0 (after-before w r parts.1)

words-alone : (w : List ℕ) → IsWord w → words_of w ≡ w ∷ []
words-alone [] h = refl
words-alone (b ∷ w) h = let parts = word-parts b w h in rw parts.0 (ap (put_front b) (words-alone w parts.1))

words-before : (w r : List ℕ) → IsWord w → words_of (w ++ 32 ∷ r) ≡ w ∷ words_of r
words-before [] r h = refl
words-before (b ∷ w) r h = let parts = word-parts b w h in rw parts.0 (ap (put_front b) (words-before w r parts.1))

-- PUT TOGETHER

-- a blank and what follows it
abbrev pub tail_of : Option (List ℕ) → List ℕ
tail_of None = []
tail_of (Some r) = 32 ∷ r

joined-at : (b : ℕ) (bytes : List ℕ) (t : Bool) → eqb b 32 ≡ t → first_word bytes ++ tail_of (after_first_word bytes) ≡ bytes →
    first_word (b ∷ bytes) ++ tail_of (after_first_word (b ∷ bytes)) ≡ b ∷ bytes
joined-at b bytes true e ih = rw e (ap (λ x. x ∷ bytes) (sym (eqb-true b 32 e)))
joined-at b bytes false e ih = rw e (ap (λ x. b ∷ x) ih)

pub joined : (bytes : List ℕ) → first_word bytes ++ tail_of (after_first_word bytes) ≡ bytes
joined [] = refl
joined (b ∷ bytes) = joined-at b bytes (eqb b 32) refl (joined bytes)

abbrev words_after_blanks : List (List ℕ) → List ℕ
words_after_blanks [] = []
words_after_blanks (w ∷ ws) = 32 ∷ w ++ words_after_blanks ws

words_after_blanks-front : (b : ℕ) (ws : List (List ℕ)) (r : List ℕ) → words_after_blanks ws ≡ 32 ∷ r → words_after_blanks (put_front b ws) ≡ 32 ∷ b ∷ r
words_after_blanks-front b [] r h = absurd (cc)
words_after_blanks-front b (w ∷ ws) r h = let e : w ++ words_after_blanks ws ≡ r = (cc) in ap (λ x. 32 ∷ b ∷ x) e

words-joined-at : (b : ℕ) (r : List ℕ) (t : Bool) → eqb b 32 ≡ t → words_after_blanks (words_of r) ≡ 32 ∷ r → words_after_blanks (words_of (b ∷ r)) ≡ 32 ∷ b ∷ r
words-joined-at b r true e ih = rw e (ap (λ x. 32 ∷ x) ih ∙ ap (λ x. 32 ∷ x ∷ r) (sym (eqb-true b 32 e)))
words-joined-at b r false e ih = rw e (words_after_blanks-front b (words_of r) r ih)

words-joined : (r : List ℕ) → words_after_blanks (words_of r) ≡ 32 ∷ r
words-joined [] = refl
words-joined (b ∷ r) = words-joined-at b r (eqb b 32) refl (words-joined r)

tail-joined : (rest : Option (List ℕ)) → words_after_blanks (words_in rest) ≡ tail_of rest
tail-joined None = refl
tail-joined (Some r) = words-joined r

-- NUMBERS

not-blank : IsInRange 48 57 32 → ⊥
not-blank h = omega (arith, h.0)

pub decimal-word : (n : ℕ) → n < 2 ^ 64 → IsWord (decimal n)
decimal-word n h = decimal-clear 32 n not-blank h

-- the rest of a line of numbers, from its first blank on
pub words-after_blanks : (high n : ℕ) (ns : List ℕ) → high < 2 ^ 64 → AreIn 0 high (n ∷ ns) → words_of (decimal n ++ after_blanks ns) ≡ map decimal (n ∷ ns)
words-after_blanks high n [] fits are = ap words_of (append-nil (decimal n)) ∙ words-alone (decimal n) (decimal-word n (omega arith))
words-after_blanks high n (m ∷ ns) fits are =
    words-before (decimal n) (decimal m ++ after_blanks ns) (decimal-word n (omega arith)) ∙ ap (λ x. decimal n ∷ x) (words-after_blanks high m ns fits are.2)

pub numbers-again : (low high : ℕ) (ns : List ℕ) → high < 2 ^ 64 → AreIn low high ns → numbers_in low high (map decimal ns) ≡ Some ns
numbers-again low high [] fits are = refl
numbers-again low high (n ∷ ns) fits are =
    rw (number-again low high n (omega arith) are.0 are.1, numbers-again low high ns fits are.2) refl

consed_if-parts : (n : Option ℕ) (ns : Option (List ℕ)) (l : List ℕ) → consed_if n ns ≡ Some l → (m : ℕ) × (ms : List ℕ) × (n ≡ Some m) × (ns ≡ Some ms) × (l ≡ m ∷ ms)
consed_if-parts None ns l h = absurd (cc)
consed_if-parts (Some n) None l h = absurd (cc)
consed_if-parts (Some n) (Some ns) l h = (n, ns, refl, refl, (cc))

put-word : (low high m : ℕ) (w : List ℕ) (ws : List (List ℕ)) (ms ns : List ℕ) → (w ≡ decimal m) × (low ≤ m) × (m ≤ high) → (words_after_blanks ws ≡ after_blanks ms) × AreIn low high ms → ns ≡ m ∷ ms →
    (words_after_blanks (w ∷ ws) ≡ after_blanks ns) × AreIn low high ns
put-word low high m w ws ms ns is rest e = rw e (ap (λ x. 32 ∷ x ++ words_after_blanks ws) is.0 ∙ ap (λ x. 32 ∷ decimal m ++ x) rest.0, (is.1, is.2, rest.1))

words-are : (low high : ℕ) (ws : List (List ℕ)) (ns : List ℕ) → high < 2 ^ 64 → numbers_in low high ws ≡ Some ns → (words_after_blanks ws ≡ after_blanks ns) × AreIn low high ns
words-are low high [] ns fits h = let e : ns ≡ [] = (cc) in rw e (refl, tt)
words-are low high (w ∷ ws) ns fits h =
    let (m, ms, one, more, e) = consed_if-parts (number_in low high w) (numbers_in low high ws) ns h in
    put-word low high m w ws ms ns (number-is low high m w fits one) (words-are low high ws ms fits more) e

pub numbers-are : (low high : ℕ) (rest : Option (List ℕ)) (ns : List ℕ) → high < 2 ^ 64 → numbers_in low high (words_in rest) ≡ Some ns → (tail_of rest ≡ after_blanks ns) × AreIn low high ns
numbers-are low high rest ns fits h = let are = words-are low high (words_in rest) ns fits h in (sym (tail-joined rest) ∙ are.0, are.1)
