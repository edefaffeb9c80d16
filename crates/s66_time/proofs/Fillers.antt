-- The NOs so far and those that the rest of an order needs are those of the order.
use Rattle.std.proofs.Common.{ℕ, ◌+◌, ◌≡◌, Bool, true, false, cond, eqb, List, [], ◌∷◌, length, length-append, map, refl, arith}
use Rattle.s66_isa.specs.{row}
use Rattle.s66_model.specs.{fillers, fits_at, len_at, Problem, Point, next_parcel, point, point_of}

one : (q : ℕ) (test : Bool) → length (cond test [] (q ∷ [])) ≡ cond test 0 1
one q true = refl
one q false = refl

pub filled-more : (b : Problem) (s : List Point) (n : ℕ) (ns : List ℕ) (count all : ℕ) → count + length (fillers (next_parcel s) (map (len_at b.block) (n ∷ ns))) ≡ all →
    (count + cond (eqb (point_of b s n).parcel (next_parcel s)) 0 1) + length (fillers (next_parcel (point_of b s n ∷ s)) (map (len_at b.block) ns)) ≡ all
unfolding point row
filled-more b s n ns count all is =
    let q = next_parcel s in
    let len = len_at b.block n in
    let at = fits_at q len in
    omega (arith, is, one q (eqb at q), length-append (cond (eqb at q) [] (q ∷ [])) (fillers (at + len) (map (len_at b.block) ns)))
