-- A loop goes over points with the first first; what it has found is about those so far, the newest first.
use Rattle.std.proofs.Common.{ℕ, ◌+◌, ◌<◌, ◌≡◌, List, [], ◌∷◌, ◌++◌, ◌∙◌, ap, sym, length, take, get_or, map, refl, reverse}
use Rattle.std.proofs.lemmas.List.{take_more, reverse-append}
use Rattle.s66_isa.specs.{Row}
use Rattle.s66_model.specs.{Problem, Point, ResultAt, row_at, point, point_of, result_at}

pub earlier-more : {X : Type 0} (xs : List X) (i : ℕ) (x : X) → i < length xs → x ≡ get_or xs i x → reverse (take (i + 1) xs) ≡ x ∷ reverse (take i xs)
earlier-more xs i x lt is =
    ap reverse (take_more xs i x lt ∙ ap (λ y. take i xs ++ y ∷ []) (sym is)) ∙ reverse-append (take i xs) (x ∷ [])

-- A POINT BY ITS PARTS

pub point-is : (n : ℕ) (r : Row) (parcel issue start : ℕ) (results : List ResultAt) (free : ℕ) (q : Point) →
    n ≡ q.number → r ≡ q.row → parcel ≡ q.parcel → issue ≡ q.issue → start ≡ q.start → results ≡ q.results → free ≡ q.free →
    (record { number = n; row = r; parcel = parcel; issue = issue; start = start; results = results; free = free }) ≡ q
point-is n r parcel issue start results free q e1 e2 e3 e4 e5 e6 e7 = rw (e1, e2, e3, e4, e5, e6, e7) refl

pub point-results : (b : Problem) (s : List Point) (n : ℕ) → (point_of b s n).results ≡ map (result_at s (point_of b s n).start) (row_at b n).writes
unfolding point
point-results b s n = refl
