-- What the rows of a leaf say of the end is the value of the leaf.
use Rattle.std.proofs.Common.{ℕ, ◌≡◌, ◌+◌, ◌++◌, List, [], ◌∷◌, map, refl, arith}
use Rattle.s66_isa.specs.{least}
use Rattle.s66_model.specs.{points_of, row_at, remaining, Leaf, Whole, Chain, Load, Parcels, MayStand, head, if_last, link, value, walk, Bounding}
use Rattle.s66_cert.specs.{Document}
use Rattle.s66_checker.specs.{problem_of}
use Rattle.s66_reasons.specs.{Reason, start_rows, walk_rows, last_row, leaf_rows, end_by, last_number}

walk-end : (d : Document) (t n : ℕ) (ns : List ℕ) → last_number (walk_rows d t n ns) ≡ t + walk (problem_of d) n ns
walk-end d t n [] = refl
walk-end d t n (m ∷ []) = omega arith
walk-end d t n (m ∷ (k ∷ ks)) =
    let b = problem_of d in
    omega (arith, walk-end d (t + link (row_at b n) (row_at b m)) m (k ∷ ks))

-- a chain begins after its first row, if there is one
start-end : (d : Document) (at : List ℕ) (n t : ℕ) (ns : List ℕ) → last_number (start_rows d at n ++ walk_rows d t n ns) ≡ t + walk (problem_of d) n ns
start-end d [] n t ns = walk-end d t n ns
start-end d (m ∷ at) n t [] = walk-end d t n []
start-end d (m ∷ at) n t (k ∷ ks) = walk-end d t n (k ∷ ks)

least-last : (d : Document) (at ns : List ℕ) → least (λ (r : Reason). r.number) (map (last_row d at) ns) ≡ least (if_last (problem_of d) at) ns
least-last d at [] = refl
least-last d at (n ∷ []) = refl
least-last d at (n ∷ (m ∷ ms)) = omega (arith, least-last d at (m ∷ ms))

pub rows-end : (d : Document) (at : List ℕ) (leaf : Leaf) → MayStand (problem_of d) at leaf → end_by leaf (leaf_rows d at (Bounding leaf)) ≡ value (problem_of d) at leaf
rows-end d at Whole may = refl
rows-end d at (Chain []) may = absurd may.1
rows-end d at (Chain (n ∷ ns)) may = start-end d at n (head (points_of (problem_of d) at) (row_at (problem_of d) n)) ns
rows-end d at (Load kind) may = refl
rows-end d at Parcels may = least-last d at (remaining (problem_of d).block at)
