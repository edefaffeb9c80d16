-- What a walk over the uses of a load has found of the least of them, and what is left to look at.
use Rattle.std.proofs.Common.{ℕ, ◌+◌, ◌<◌, ◌≡◌, min, List, [], ◌∷◌, length, map, get_or, refl, sym, ap, arith, ◌∙◌}
use Rattle.s66_isa.specs.{least}
use Rattle.s66_model.specs.{Problem, row_at}
use Rattle.s66_moments.specs.{Use, use_of}

-- the least of low and of the amounts of these
abbrev pub least_with : ℕ → List Use → ℕ
least_with low [] = low
least_with low (u ∷ us) = least_with (min low u.amount) us

least_with-min : (a b : ℕ) (us : List Use) → least_with (min a b) us ≡ min a (least_with b us)
least_with-min a b [] = refl
least_with-min a b (u ∷ us) = (let e : min (min a b) u.amount ≡ min a (min b u.amount) = omega arith in ap (λ k. least_with k us) e ∙ least_with-min a (min b u.amount) us)

least-with : (u : Use) (us : List Use) → least (λ (v : Use). v.amount) (u ∷ us) ≡ least_with u.amount us
least-with u [] = refl
least-with u (v ∷ us) = ap (min u.amount) (least-with v us) ∙ sym (least_with-min u.amount v.amount us)

-- from the first on
pub least-begun : (b : Problem) (ns : List ℕ) (low : ℕ) → 0 < length ns → low ≡ (row_at b (get_or ns 0 0)).hold + 1 → least_with low (map (use_of b) ns) ≡ least (λ (v : Use). v.amount) (map (use_of b) ns)
least-begun b [] low some is = absurd (omega (arith, some))
least-begun b (n ∷ ns) low some is =
    let first : min low ((row_at b n).hold + 1) ≡ (row_at b n).hold + 1 = omega (arith, is) in
    ap (λ k. least_with k (map (use_of b) ns)) first ∙ sym (least-with (use_of b n) (map (use_of b) ns))
