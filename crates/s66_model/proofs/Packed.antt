-- The parcels of an order's points are those of its packing.
use Rattle.std.proofs.Common.{ℕ, ◌+◌, ◌≡◌, List, [], ◌∷◌, ◌++◌, refl, sym, ap, map, reverse, append_assoc, append-nil, ◌∙◌}
use Rattle.std.proofs.lemmas.List.{reverse-append, map-append}
use Rattle.s66_isa.specs.{row}
use Rattle.s66_model.specs.{parcels_from, fits_at, len_at, Problem, Point, point_of, point, points_after, points_of, next_parcel}

point_of-parcel : (b : Problem) (s : List Point) (n : ℕ) → (point_of b s n).parcel ≡ fits_at (next_parcel s) (len_at b.block n)
unfolding point row
point_of-parcel b s n = refl

point_of-next : (b : Problem) (s : List Point) (n : ℕ) → next_parcel (point_of b s n ∷ s) ≡ fits_at (next_parcel s) (len_at b.block n) + len_at b.block n
unfolding point row
point_of-next b s n = refl

parcels-run : (b : Problem) (s : List Point) (ns : List ℕ) →
    map (λ (p : Point). p.parcel) (reverse (points_after b s ns)) ≡ map (λ (p : Point). p.parcel) (reverse s) ++ parcels_from (next_parcel s) (map (len_at b.block) ns)
parcels-run b s [] = sym (append-nil (map (λ (p : Point). p.parcel) (reverse s)))
parcels-run b s (n ∷ ns) =
    let p : Point = point_of b s n in
    let ih : map (λ (p : Point). p.parcel) (reverse (points_after b (p ∷ s) ns)) ≡ map (λ (p : Point). p.parcel) (reverse (p ∷ s)) ++ parcels_from (next_parcel (p ∷ s)) (map (len_at b.block) ns) = parcels-run b (p ∷ s) ns in
    let turn : reverse (p ∷ s) ≡ reverse s ++ p ∷ [] = reverse-append (p ∷ []) s in
    let split : map (λ (p : Point). p.parcel) (reverse s ++ p ∷ []) ≡ map (λ (p : Point). p.parcel) (reverse s) ++ p.parcel ∷ [] = map-append (λ (p : Point). p.parcel) (reverse s) (p ∷ []) in
    let front : map (λ (p : Point). p.parcel) (reverse (p ∷ s)) ≡ map (λ (p : Point). p.parcel) (reverse s) ++ p.parcel ∷ [] = ap (map (λ (p : Point). p.parcel)) turn ∙ split in
    let at : ℕ = fits_at (next_parcel s) (len_at b.block n) in
    let head : p.parcel ∷ parcels_from (next_parcel (p ∷ s)) (map (len_at b.block) ns) ≡ at ∷ parcels_from (next_parcel (p ∷ s)) (map (len_at b.block) ns) = ap (λ q. q ∷ parcels_from (next_parcel (p ∷ s)) (map (len_at b.block) ns)) (point_of-parcel b s n) in
    let rest : at ∷ parcels_from (next_parcel (p ∷ s)) (map (len_at b.block) ns) ≡ at ∷ parcels_from (at + len_at b.block n) (map (len_at b.block) ns) = ap (λ q. at ∷ parcels_from q (map (len_at b.block) ns)) (point_of-next b s n) in
    ih ∙ ap (λ xs. xs ++ parcels_from (next_parcel (p ∷ s)) (map (len_at b.block) ns)) front
    ∙ append_assoc (map (λ (p : Point). p.parcel) (reverse s)) (p.parcel ∷ []) (parcels_from (next_parcel (p ∷ s)) (map (len_at b.block) ns))
    ∙ ap (λ xs. map (λ (p : Point). p.parcel) (reverse s) ++ xs) (head ∙ rest)

pub points-parcels_from : (b : Problem) (order : List ℕ) → map (λ (p : Point). p.parcel) (reverse (points_of b order)) ≡ parcels_from 0 (map (len_at b.block) order)
points-parcels_from b order = parcels-run b [] order
