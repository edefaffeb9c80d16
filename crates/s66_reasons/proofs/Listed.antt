-- Numbers of a list that are said or looked at one after the other in a loop.
use Rattle.std.proofs.Common.{ℕ, suc, zero, ◌+◌, ◌-◌, ◌≡◌, ◌≤◌, ◌<◌, ◌∙◌, List, [], ◌∷◌, ◌++◌, length, drop, get_or, ap, append_assoc, sym, arith, length-drop}
use Rattle.std.proofs.lemmas.List.{at_drop_more}
use Rattle.s66_reasons.specs.{listed, separator, AreWithin}

-- one more is said, and what comes after it
pub listed-more : (words : ℕ → List ℕ) (ns : List ℕ) (i : ℕ) (old middle new sep : List ℕ) → i < length ns → middle ≡ old ++ words (get_or ns i 0) →
    new ≡ middle ++ sep → sep ≡ separator (length ns - 1 - i) → new ++ listed words (drop (i + 1) ns) ≡ old ++ listed words (drop i ns)
listed-more words ns i old middle new sep within first second after =
    let rest = drop (i + 1) ns in
    let later : length ns - 1 - i ≡ length rest = omega (arith, length-drop (i + 1) ns, within) in
    let said = words (get_or ns i 0) in
    ap (λ xs. xs ++ listed words rest) (second ∙ ap (λ xs. xs ++ sep) first ∙ ap (λ xs. old ++ said ++ xs) (after ∙ ap separator later))
    ∙ append_assoc (old ++ said) (separator (length rest)) (listed words rest)
    ∙ append_assoc old said (separator (length rest) ++ listed words rest)
    ∙ ap (λ xs. old ++ xs) (sym (append_assoc said (separator (length rest)) (listed words rest)))
    ∙ ap (λ xs. old ++ xs) (sym (at_drop_more (listed words) ns i 0 within))

pub within-push : (count : ℕ) (ns : List ℕ) (n : ℕ) → AreWithin count ns → 1 ≤ n → n ≤ count → AreWithin count (ns ++ n ∷ [])
within-push count [] n all low high zero less = (low, high)
within-push count [] n all low high (suc i) less = absurd (omega (arith, less))
within-push count (m ∷ ms) n all low high zero less = all zero (omega arith)
within-push count (m ∷ ms) n all low high (suc i) less = within-push count ms n (λ j lower. all (suc j) (omega (arith, lower))) low high i (omega (arith, less))
