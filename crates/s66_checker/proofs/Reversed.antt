-- The greatest, a count or a sum of a list is that of the list turned around: points are kept oldest first, the model has the newest
-- first.
use Rattle.std.proofs.Common.{ℕ, ◌+◌, ◌-◌, ◌<◌, ◌≡◌, Bool, List, [], ◌∷◌, length, take, get_or, reverse, refl, sym, ap, arith, ◌∙◌, take_all}
use Rattle.std.proofs.lemmas.List.{reverse-append, take_more}
use Rattle.s66_isa.specs.{greatest, tally}
use Rattle.s66_isa.proofs.Lists.{greatest-append, tally-append}

pub greatest-reverse : {X : Type 0} (f : X → ℕ) (xs : List X) → greatest f (reverse xs) ≡ greatest f xs
greatest-reverse f [] = refl
greatest-reverse f (x ∷ xs) =
    omega (arith, ap (greatest f) (reverse-append (x ∷ []) xs), greatest-append f (reverse xs) (x ∷ []), greatest-reverse f xs)

pub tally-reverse : {X : Type 0} (test : X → Bool) (xs : List X) → tally test (reverse xs) ≡ tally test xs
tally-reverse test [] = refl
tally-reverse test (x ∷ xs) =
    omega (arith, ap (tally test) (reverse-append (x ∷ []) xs), tally-append test (reverse xs) (x ∷ []), tally-reverse test xs)

-- the last comes to the front
pub reverse-last : {X : Type 0} (xs : List X) (x : X) → 0 < length xs → x ≡ get_or xs (length xs - 1) x → reverse xs ≡ x ∷ reverse (take (length xs - 1) xs)
reverse-last xs x some is =
    let i = length xs - 1 in
    ap reverse (sym (take_all (i + 1) xs (omega arith)) ∙ take_more xs i x (omega arith))
    ∙ reverse-append (take i xs) (get_or xs i x ∷ [])
    ∙ ap (λ y. y ∷ reverse (take i xs)) (sym is)
