-- What a walk over the numbers of a set has found so far of the least word, and what is left.
use Rattle.std.proofs.Common.{ℕ, ◌≤◌, ◌<◌, ◌≡◌, min, List, [], ◌∷◌, length, refl, sym, ap, arith, ◌∙◌}
use Rattle.s66_isa.specs.{least}

-- the least of low and of f of these
abbrev pub least_with : ℕ → (ℕ → ℕ) → List ℕ → ℕ
least_with low f [] = low
least_with low f (n ∷ ns) = least_with (min low (f n)) f ns

least_with-min : (f : ℕ → ℕ) (a b : ℕ) (ns : List ℕ) → least_with (min a b) f ns ≡ min a (least_with b f ns)
least_with-min f a b [] = refl
least_with-min f a b (n ∷ ns) = (let e : min (min a b) (f n) ≡ min a (min b (f n)) = omega arith in ap (λ k. least_with k f ns) e ∙ least_with-min f a (min b (f n)) ns)

least-with : (f : ℕ → ℕ) (n : ℕ) (ns : List ℕ) → least f (n ∷ ns) ≡ least_with (f n) f ns
least-with f n [] = refl
least-with f n (m ∷ ns) = ap (min (f n)) (least-with f m ns) ∙ sym (least_with-min f (f n) (f m) ns)

-- from a number on that is no less than any
pub least-from : (f : ℕ → ℕ) (top : ℕ) (ns : List ℕ) → ((n : ℕ) → f n ≤ top) → 0 < length ns → least f ns ≡ least_with top f ns
least-from f top [] below some = absurd (omega arith)
least-from f top (n ∷ ns) below some =
    let first : f n ≡ min top (f n) = omega (arith, below n) in
    least-with f n ns ∙ ap (λ k. least_with k f ns) first
