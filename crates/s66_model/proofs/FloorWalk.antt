-- The floor by a walk over its leaves, which keeps the first greatest so far; and by the sorts of leaves.
use Rattle.std.proofs.Common.{ℕ, ◌+◌, ◌≤◌, ◌<◌, ◌≡◌, ◌≢◌, max, List, [], ◌∷◌, ◌++◌, map, drop, get_or, length, refl, ap, arith, ltb, ◌∙◌, ne_eqb, lt-ltb, le-ltb}
use Rattle.std.proofs.lemmas.Bool.{cond-true, cond-false}
use Rattle.std.proofs.lemmas.List.{drop_more}
use Rattle.s66_isa.specs.{Kind, greatest, all_kinds}
use Rattle.s66_isa.proofs.Lists.{greatest-append}
use Rattle.s66_model.specs.{Problem, IsBeginning, IsIncomplete, Leaf, Chain, Load, Parcels, value, load, parcels, chain, longest_chain, first_greatest, floor, floor_value}
use Rattle.s66_model.proofs.FloorParts.{floor-parts}

-- ONE LEAF FURTHER

pub first-replaced : (f : Leaf → ℕ) (leaf other : Leaf) (others : List Leaf) → f leaf < f other → first_greatest f leaf (other ∷ others) ≡ first_greatest f other others
first-replaced f leaf other others lt = ap (λ x. first_greatest f x others) (cond-true {A = Leaf} (ltb (f leaf) (f other)) other leaf (lt-ltb (f leaf) (f other) lt))

pub first-kept : (f : Leaf → ℕ) (leaf other : Leaf) (others : List Leaf) → f other ≤ f leaf → first_greatest f leaf (other ∷ others) ≡ first_greatest f leaf others
first-kept f leaf other others le = ap (λ x. first_greatest f x others) (cond-false {A = Leaf} (ltb (f leaf) (f other)) other leaf (le-ltb (f leaf) (f other) le))

-- the leaves after the chain, from the loads of these kinds on
abbrev pub leaves_from : List Kind → List Leaf
leaves_from kinds = map (λ (kind : Kind). Load kind) kinds ++ Parcels ∷ []

pub leaves-step : (kinds : List Kind) (i : ℕ) (d : Kind) → i < length kinds → leaves_from (drop i kinds) ≡ Load (get_or kinds i d) ∷ leaves_from (drop (i + 1) kinds)
leaves-step kinds i d lt = ap leaves_from (drop_more kinds i d lt)

pub floor-first : (b : Problem) (prefix : List ℕ) → IsIncomplete b.block prefix → first_greatest (value b prefix) (Chain (longest_chain b prefix)) (leaves_from all_kinds) ≡ floor b prefix
floor-first b prefix short = (let past : length prefix ≢ length b.block = (λ same. omega (arith, same, short)) in rw (floor, ne_eqb (length prefix) (length b.block) past) refl)

-- THE SORTS OF LEAVES

greatest-loads : (b : Problem) (prefix : List ℕ) (kinds : List Kind) → greatest (value b prefix) (map (λ (kind : Kind). Load kind) kinds) ≡ greatest (load b prefix) kinds
greatest-loads b prefix [] = refl
greatest-loads b prefix (kind ∷ kinds) = ap (max (load b prefix kind)) (greatest-loads b prefix kinds)

-- the greatest of the chain, the loads and the parcels
pub floor-sorts : (b : Problem) (prefix : List ℕ) → IsBeginning b.block prefix → IsIncomplete b.block prefix →
    floor_value b prefix ≡ max (chain b prefix) (max (greatest (load b prefix) all_kinds) (parcels b prefix))
floor-sorts b prefix begins short =
    floor-parts b prefix begins short
    ∙ ap (max (chain b prefix)) (greatest-append (value b prefix) (map (λ (kind : Kind). Load kind) all_kinds) (Parcels ∷ []) ∙ ap (λ k. max k (max (parcels b prefix) 0)) (greatest-loads b prefix all_kinds) ∙ omega arith)
