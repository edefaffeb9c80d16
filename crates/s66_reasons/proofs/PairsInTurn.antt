-- The pairs that put a number before another are found one by one.
use Rattle.std.proofs.Common.{ℕ, suc, ◌+◌, ◌-◌, ◌≡◌, ◌<◌, ◌∙◌, true, false, List, [], ◌∷◌, ◌++◌, cond, eqb, ap, append_assoc, arith, sym, append-nil}
use Rattle.std.proofs.lemmas.Bool.{cond-false, cond-true}
use Rattle.s66_cert.specs.{Document}
use Rattle.s66_reasons.specs.{pair_from, pairs_over, second_of_pair}

next-of : (d : Document) (k m n number : ℕ) → number ≡ pair_from d m n →
    pairs_over d (suc k) m n ≡ cond {A = List ℕ} (eqb number 0) [] (number ∷ pairs_over d k (second_of_pair d number) n)
next-of d k m n number is = ap (λ x. cond {A = List ℕ} (eqb x 0) [] (x ∷ pairs_over d k (second_of_pair d x) n)) (sym is)

one-more : (d : Document) (most step m n number : ℕ) (old : List ℕ) → step < most → number ≡ pair_from d m n → eqb number 0 ≡ false →
    (old ++ number ∷ []) ++ pairs_over d (most - (step + 1)) (second_of_pair d number) n ≡ old ++ pairs_over d (most - step) m n
one-more d most step m n number old within is some =
    let k = most - (step + 1) in
    let rest = pairs_over d k (second_of_pair d number) n in
    let more : suc k ≡ most - step = omega (arith, within) in
    append_assoc old (number ∷ []) rest
    ∙ ap (λ xs. old ++ xs) (sym (next-of d k m n number is ∙ cond-false {A = List ℕ} (eqb number 0) [] (number ∷ rest) some))
    ∙ ap (λ c. old ++ pairs_over d c m n) more

pub pairs-more : (d : Document) (most step m n number from : ℕ) (old now : List ℕ) → step < most → number ≡ pair_from d m n → eqb number 0 ≡ false →
    from ≡ second_of_pair d number → now ≡ old ++ number ∷ [] → now ++ pairs_over d (most - (step + 1)) from n ≡ old ++ pairs_over d (most - step) m n
pairs-more d most step m n number from old now within is some second pushed =
    ap (λ k. now ++ pairs_over d (most - (step + 1)) k n) second
    ∙ ap (λ xs. xs ++ pairs_over d (most - (step + 1)) (second_of_pair d number) n) pushed
    ∙ one-more d most step m n number old within is some

pub pairs-none : (d : Document) (most step m n number : ℕ) (old : List ℕ) → step < most → number ≡ pair_from d m n → eqb number 0 ≡ true →
    old ≡ old ++ pairs_over d (most - step) m n
pairs-none d most step m n number old within is none =
    let k = most - (step + 1) in
    let more : suc k ≡ most - step = omega (arith, within) in
    sym (append-nil old)
    ∙ ap (λ xs. old ++ xs) (sym (next-of d k m n number is ∙ cond-true {A = List ℕ} (eqb number 0) [] (number ∷ pairs_over d k (second_of_pair d number) n) none))
    ∙ ap (λ c. old ++ pairs_over d c m n) more
