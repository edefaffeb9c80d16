-- Words of few digits give numbers that fit, and those of more are refused (`number_in`).
use Rattle.std.proofs.Common.{◌≡◌, ◌≤◌, ◌<◌, ◌+◌, ◌^◌, ℕ, zero, suc, Bool, true, false, List, [], ◌∷◌, ◌++◌, length, Option, None, Some, refl, sym, ap, ◌∙◌, arith, leb, eqb, le-leb, length-append}
use Rattle.std.proofs.Common.{append_assoc, leb-true, leb-false, decimal, append-nil}
use Rattle.std.proofs.lemmas.Bool.{lt-leb}
use Rattle.std.proofs.lemmas.Fmt.{length-decimal-le}
use Rattle.s66_cert.specs.{if_count, number_in, numbers_in, first_word, after_first_word, words_of, words_in, put_front, consed, consed_if, LINE_LIMIT}
use Rattle.s66_cert.proofs.NumberTexts.{number-is}

pub below-billion : (k v : ℕ) → k ≤ 9 → v < 10 ^ k → v < 1000000000
below-billion zero v le h = omega arith
below-billion (suc zero) v le h = omega arith
below-billion (suc (suc zero)) v le h = omega arith
below-billion (suc (suc (suc zero))) v le h = omega arith
below-billion (suc (suc (suc (suc zero)))) v le h = omega arith
below-billion (suc (suc (suc (suc (suc zero))))) v le h = omega arith
below-billion (suc (suc (suc (suc (suc (suc zero)))))) v le h = omega arith
below-billion (suc (suc (suc (suc (suc (suc (suc zero))))))) v le h = omega arith
below-billion (suc (suc (suc (suc (suc (suc (suc (suc zero)))))))) v le h = omega arith
below-billion (suc (suc (suc (suc (suc (suc (suc (suc (suc zero))))))))) v le h = omega arith
below-billion (suc (suc (suc (suc (suc (suc (suc (suc (suc (suc k)))))))))) v le h = absurd (omega arith)

-- a word of more than nine bytes is none of these numbers
none-or : (o : Option ℕ) → ((n : ℕ) → o ≡ Some n → ⊥) → o ≡ None
none-or None h = refl
none-or (Some n) h = absurd (h n refl)

pub too-long : (low high : ℕ) (word : List ℕ) → high ≤ LINE_LIMIT → 9 < length word → None ≡ number_in low high word
too-long low high word few long =
    sym (none-or (number_in low high word) (λ n h.
    let is = number-is low high n word (omega arith) h in
    let short : length (decimal n) ≤ 9 = length-decimal-le 9 n (omega arith) (omega (arith, is.2)) (omega (arith, is.2)) in
    omega (arith, short, ap length is.0)))

-- more numbers after these
abbrev pub after_all : List ℕ → Option (List ℕ) → Option (List ℕ)
after_all front None = None
after_all front (Some ns) = Some (front ++ ns)

abbrev pub bytes_left : Option (List ℕ) → ℕ
bytes_left None = 0
bytes_left (Some bytes) = suc (length bytes)

words-at : (b : ℕ) (bytes : List ℕ) (t : Bool) → eqb b 32 ≡ t → words_of bytes ≡ first_word bytes ∷ words_in (after_first_word bytes) → words_of (b ∷ bytes) ≡ first_word (b ∷ bytes) ∷ words_in (after_first_word (b ∷ bytes))
words-at b bytes true e ih = rw e refl
words-at b bytes false e ih = rw e (ap (put_front b) ih)

words-cut : (bytes : List ℕ) → words_of bytes ≡ first_word bytes ∷ words_in (after_first_word bytes)
words-cut [] = refl
words-cut (b ∷ bytes) = words-at b bytes (eqb b 32) refl (words-cut bytes)

read-word : (low high : ℕ) (bytes word : List ℕ) (more : Option (List ℕ)) (n : Option ℕ) → word ≡ first_word bytes → more ≡ after_first_word bytes → n ≡ number_in low high word →
    numbers_in low high (words_in (Some bytes)) ≡ consed_if n (numbers_in low high (words_in more))
read-word low high bytes word more n first rest read =
    ap (numbers_in low high) (words-cut bytes)
    ∙ ap (λ w. consed_if (number_in low high w) (numbers_in low high (words_in (after_first_word bytes)))) (sym first)
    ∙ ap (λ o. consed_if o (numbers_in low high (words_in (after_first_word bytes)))) (sym read)
    ∙ ap (λ m. consed_if n (numbers_in low high (words_in m))) (sym rest)

after-consed : (front : List ℕ) (n : ℕ) (ns : Option (List ℕ)) → after_all front (consed n ns) ≡ after_all (front ++ n ∷ []) ns
after-consed front n None = refl
after-consed front n (Some ns) = ap Some (sym (append_assoc front (n ∷ []) ns))

-- a word that is no number, in a list of any length
pub numbers-none : (low high most : ℕ) (front bytes word : List ℕ) (left more whole : Option (List ℕ)) → left ≡ Some bytes → word ≡ first_word bytes → more ≡ after_first_word bytes → None ≡ number_in low high word →
    after_all front (numbers_in low high (words_in left)) ≡ whole → None ≡ if_count 0 most whole
numbers-none low high most front bytes word left more whole is first rest read inv =
    let none : None ≡ whole =
    sym (ap (after_all front) (read-word low high bytes word more None first rest read)) ∙ sym (ap (λ l. after_all front (numbers_in low high (words_in l))) is) ∙ inv in
    ap (if_count 0 most) none

-- a word that is one
pub numbers-some : (low high n : ℕ) (front bytes word : List ℕ) (left more whole : Option (List ℕ)) → left ≡ Some bytes → word ≡ first_word bytes → more ≡ after_first_word bytes → Some n ≡ number_in low high word →
    after_all front (numbers_in low high (words_in left)) ≡ whole → after_all (front ++ n ∷ []) (numbers_in low high (words_in more)) ≡ whole
numbers-some low high n front bytes word left more whole is first rest read inv =
    sym (after-consed front n (numbers_in low high (words_in more)))
    ∙ sym (ap (after_all front) (read-word low high bytes word more (Some n) first rest read)) ∙ sym (ap (λ l. after_all front (numbers_in low high (words_in l))) is) ∙ inv

-- one number more than there may be
above-all : (most n : ℕ) (front : List ℕ) (ns : Option (List ℕ)) → length front ≡ most → None ≡ if_count 0 most (after_all (front ++ n ∷ []) ns)
above-all most n front None full = refl
above-all most n front (Some ns) full =
    let count : length ((front ++ n ∷ []) ++ ns) ≡ length (front ++ n ∷ []) + length ns = length-append (front ++ n ∷ []) ns in
    let longer : length (front ++ n ∷ []) ≡ length front + 1 = length-append front (n ∷ []) in
    let above : leb (length ((front ++ n ∷ []) ++ ns)) most ≡ false = lt-leb (length ((front ++ n ∷ []) ++ ns)) most (omega (arith, count, longer, full)) in
    let zero : leb 0 (length ((front ++ n ∷ []) ++ ns)) ≡ true = le-leb 0 (length ((front ++ n ∷ []) ++ ns)) (omega arith) in
    rw (above, zero) refl

pub numbers-too_many : (low high most n : ℕ) (front bytes word : List ℕ) (left more whole : Option (List ℕ)) → left ≡ Some bytes → word ≡ first_word bytes → more ≡ after_first_word bytes → Some n ≡ number_in low high word →
    length front ≡ most → after_all front (numbers_in low high (words_in left)) ≡ whole → None ≡ if_count 0 most whole
numbers-too_many low high most n front bytes word left more whole is first rest read full inv =
    above-all most n front (numbers_in low high (words_in more)) full ∙ ap (if_count 0 most) (numbers-some low high n front bytes word left more whole is first rest read inv)

-- all were read
pub numbers-all : (low high most : ℕ) (front : List ℕ) (left whole : Option (List ℕ)) → left ≡ None → length front ≤ most → after_all front (numbers_in low high (words_in left)) ≡ whole → Some front ≡ if_count 0 most whole
numbers-all low high most front left whole is few inv =
    let all : Some front ≡ whole = ap Some (sym (append-nil front)) ∙ sym (ap (λ l. after_all front (numbers_in low high (words_in l))) is) ∙ inv in
    rw (← all, le-leb (length front) most few, le-leb 0 (length front) (omega arith)) refl

pub below : (count most : ℕ) → count ≤ most → (count ≡ most → ⊥) → count < most
below count most le differs = by (leb most count) refl
  where
    by : (t : Bool) → leb most count ≡ t → count < most
    by true stated = absurd (differs (omega (arith, le, leb-true most count stated)))
    by false stated = leb-false most count stated
