-- The floor of a beginning: it may stand there, is the greatest leaf that may, and of equal ones goes first.
use Rattle.std.proofs.Common.{ℕ, zero, suc, ◌≤◌, ◌<◌, ◌≡◌, ◌≢◌, true, cond, List, [], ◌∷◌, ◌++◌, length, length-append, refl, sym, subst, ap, arith, inl, inr, ltb, get_or, ◌∙◌, ltb-true, ltb-false}
use Rattle.std.proofs.Common.{eq-eqb, ne_eqb, append-nil}
use Rattle.std.proofs.lemmas.Bool.{and_parts, cond_both, cases_eq}
use Rattle.s66_isa.specs.{Instr, Kind, Boolean, Shift, Add, LongAdd, Multiply, Divide, Increment, kind_number, all_kinds}
use Rattle.s66_model.specs.{Problem, is_remaining, needs_met, GoesOn, IsBeginning, IsIncomplete, IsComplete, Leaf, Whole, Chain, Load, Parcels, value, chain_value, chain, MayStand, longest_chain}
use Rattle.s66_model.specs.{first_greatest, after_chain, floor, InDictionaryOrder, rank, IsFloor}
use Rattle.s66_model.proofs.LegalOrders.{legal-order, GoesOn-append}
use Rattle.s66_model.proofs.Beginnings.{beginning-front}
use Rattle.s66_model.proofs.LongestChain.{longest-is_chain, longest-first, chain-le}
use Rattle.s66_model.proofs.Dictionary.{IsNoLater-itself, IsNoLater-through, IsNoLater-both}

-- SOME NUMBER REMAINS AT AN INCOMPLETE BEGINNING

rest-remains : (block : List Instr) (prefix rest : List ℕ) → GoesOn block prefix rest → length (prefix ++ rest) ≡ length block → IsIncomplete block prefix → (n : ℕ) × (is_remaining block prefix n ≡ true)
rest-remains block prefix [] goes whole short =
    let same : length prefix ≡ length block = subst (λ ns. length ns ≡ length block) (append-nil prefix) whole in
    absurd (omega (arith, short, same))
rest-remains block prefix (n ∷ rest) goes whole short = (n, (and_parts (is_remaining block prefix n) (needs_met block prefix n n) goes.0).0)

pub some-remains : (block : List Instr) (prefix : List ℕ) → IsBeginning block prefix → IsIncomplete block prefix → (n : ℕ) × (is_remaining block prefix n ≡ true)
some-remains block prefix h short =
    let (rest, legal) = beginning-front block prefix h in
    let order = legal-order block (prefix ++ rest) legal in
    rest-remains block prefix rest (GoesOn-append block [] prefix rest order.0).1 order.1 short

beginning-short : (block : List Instr) (prefix : List ℕ) → IsBeginning block prefix → length prefix ≢ length block → IsIncomplete block prefix
beginning-short block prefix h past =
    let (rest, legal) = beginning-front block prefix h in
    let order = legal-order block (prefix ++ rest) legal in
    omega (arith, order.1, length-append prefix rest)

-- THE FIRST GREATEST IS ONE OF THE LEAVES

-- it holds of each of these leaves
abbrev Each : (Leaf → Type 0) → List Leaf → Type 0
Each P [] = Unit {0}
Each P (leaf ∷ leaves) = P leaf × Each P leaves

-- what holds of all leaves in turn holds of the first greatest
first_greatest-holds : (P : Leaf → Type 0) (f : Leaf → ℕ) (others : List Leaf) (leaf : Leaf) → P leaf → Each P others → P (first_greatest f leaf others)
first_greatest-holds P f [] leaf h each = h
first_greatest-holds P f (other ∷ others) leaf h each =
    first_greatest-holds P f others (cond (ltb (f leaf) (f other)) other leaf)
    (cond_both (ltb (f leaf) (f other)) other leaf P (λ greater. each.0) (λ not_greater. h))
    each.1

each-after : (P : Leaf → Type 0) → ((kind : Kind) → P (Load kind)) → P Parcels → Each P after_chain
each-after P loads parcels = (loads Boolean, (loads Shift, (loads Add, (loads LongAdd, (loads Multiply, (loads Divide, (loads Increment, (parcels, tt))))))))

each-load : (P : Leaf → Type 0) → Each P after_chain → (kind : Kind) → P (Load kind)
each-load P (boolean, (shift, (add, (long_add, (multiply, (divide, (increment, rest))))))) Boolean = boolean
each-load P (boolean, (shift, (add, (long_add, (multiply, (divide, (increment, rest))))))) Shift = shift
each-load P (boolean, (shift, (add, (long_add, (multiply, (divide, (increment, rest))))))) Add = add
each-load P (boolean, (shift, (add, (long_add, (multiply, (divide, (increment, rest))))))) LongAdd = long_add
each-load P (boolean, (shift, (add, (long_add, (multiply, (divide, (increment, rest))))))) Multiply = multiply
each-load P (boolean, (shift, (add, (long_add, (multiply, (divide, (increment, rest))))))) Divide = divide
each-load P (boolean, (shift, (add, (long_add, (multiply, (divide, (increment, rest))))))) Increment = increment

each-parcels : (P : Leaf → Type 0) → Each P after_chain → P Parcels
each-parcels P (boolean, (shift, (add, (long_add, (multiply, (divide, (increment, (parcels, rest)))))))) = parcels

-- NONE IS GREATER, AND OF EQUAL ONES IT GOES FIRST

-- the leaf is greater than the other, or as great and no later
abbrev GoesBefore : (Leaf → ℕ) → Leaf → Leaf → Type 0
GoesBefore f leaf other = (f other ≤ f leaf) × (f other ≡ f leaf → InDictionaryOrder (rank leaf) (rank other))

before-itself : (f : Leaf → ℕ) (leaf : Leaf) → GoesBefore f leaf leaf
before-itself f leaf = (omega arith, λ same. IsNoLater-itself (rank leaf))

before-through : (f : Leaf → ℕ) (x y z : Leaf) → GoesBefore f x y → GoesBefore f y z → GoesBefore f x z
before-through f x y z h1 h2 =
    (omega (arith, h1.0, h2.0), λ same. IsNoLater-through (rank x) (rank y) (rank z) (h1.1 (omega (arith, h1.0, h2.0, same))) (h2.1 (omega (arith, h1.0, h2.0, same))))

-- each leaf is no later than the next
abbrev Ordered : Leaf → List Leaf → Type 0
Ordered leaf [] = Unit {0}
Ordered leaf (other ∷ others) = InDictionaryOrder (rank leaf) (rank other) × Ordered other others

ordered-without : (leaf other : Leaf) (others : List Leaf) → Ordered leaf (other ∷ others) → Ordered leaf others
ordered-without leaf other [] h = tt
ordered-without leaf other (third ∷ others) (first, (second, rest)) = (IsNoLater-through (rank leaf) (rank other) (rank third) first second, rest)

-- of leaves in order the first greatest goes before all
first_greatest-before : (f : Leaf → ℕ) (others : List Leaf) (leaf : Leaf) → Ordered leaf others →
    GoesBefore f (first_greatest f leaf others) leaf × Each (GoesBefore f (first_greatest f leaf others)) others
first_greatest-before f [] leaf ordered = (before-itself f leaf, tt)
first_greatest-before f (other ∷ others) leaf ordered =
    let now : Leaf = cond (ltb (f leaf) (f other)) other leaf in
    let (before_leaf, before_other, still) = cond_both (ltb (f leaf) (f other)) other leaf (λ x. GoesBefore f x leaf × GoesBefore f x other × Ordered x others)
    (λ greater. let lt : f leaf < f other = ltb-true (f leaf) (f other) greater in ((omega (arith, lt), λ same. absurd (omega (arith, lt, same))), before-itself f other, ordered.1))
    (λ not_greater. let le : f other ≤ f leaf = ltb-false (f leaf) (f other) not_greater in (before-itself f leaf, (le, λ same. ordered.0), ordered-without leaf other others ordered)) in
    let rest = first_greatest-before f others now still in
    let x : Leaf = first_greatest f now others in
    (before-through f x now leaf rest.0 before_leaf, (before-through f x now other rest.0 before_other, rest.1))

leaves-ordered : (ns : List ℕ) → Ordered (Chain ns) after_chain
leaves-ordered ns =
    (inl (omega arith), (next Boolean Shift (omega arith), (next Shift Add (omega arith), (next Add LongAdd (omega arith), (next LongAdd Multiply (omega arith), (next Multiply Divide (omega arith), (next Divide Increment (omega arith), (inl (omega arith), tt))))))))
  where
    next : (kind other : Kind) → kind_number kind < kind_number other → InDictionaryOrder (rank (Load kind)) (rank (Load other))
    next kind other lt = inr (refl, inl lt)

-- if the first greatest goes before the printed chain and all leaves after it, it goes before all that may stand
part-before : (b : Problem) (prefix : List ℕ) (x : Leaf) → IsIncomplete b.block prefix → chain_value b prefix (longest_chain b prefix) ≡ chain b prefix →
    GoesBefore (value b prefix) x (Chain (longest_chain b prefix)) → Each (GoesBefore (value b prefix) x) after_chain →
    (other : Leaf) → MayStand b prefix other → GoesBefore (value b prefix) x other
part-before b prefix x short is first each Whole may = absurd (omega (arith, short, may))
part-before b prefix x short is first each (Chain ns) may =
    before-through (value b prefix) x (Chain (longest_chain b prefix)) (Chain ns) first
    (omega (arith, is, chain-le b prefix ns may.1), λ same. inr (refl, longest-first b prefix ns may.1 (omega (arith, is, same))))
part-before b prefix x short is first each (Load kind) may = each-load (GoesBefore (value b prefix) x) each kind
part-before b prefix x short is first each Parcels may = each-parcels (GoesBefore (value b prefix) x) each

whole-before : (b : Problem) (prefix : List ℕ) → IsComplete b.block prefix → (other : Leaf) → MayStand b prefix other → value b prefix other ≤ value b prefix Whole
whole-before b prefix is Whole may = omega arith
whole-before b prefix is (Chain ns) may = absurd (omega (arith, is, may.0))
whole-before b prefix is (Load kind) may = absurd (omega (arith, is, may))
whole-before b prefix is Parcels may = absurd (omega (arith, is, may))

-- THE FLOOR

pub floor-whole : (b : Problem) (prefix : List ℕ) → IsComplete b.block prefix → floor b prefix ≡ Whole
floor-whole b prefix is = rw (floor, eq-eqb (length prefix) (length b.block) is) refl

pub floor-part : (b : Problem) (prefix : List ℕ) → length prefix ≢ length b.block → floor b prefix ≡ first_greatest (value b prefix) (Chain (longest_chain b prefix)) after_chain
floor-part b prefix past = rw (floor, ne_eqb (length prefix) (length b.block) past) refl

whole-floor : (b : Problem) (prefix : List ℕ) → IsComplete b.block prefix → IsFloor b prefix Whole
whole-floor b prefix is = record { stands = is; greatest = whole-before b prefix is; first = λ other may same. tt }

part-floor : (b : Problem) (prefix : List ℕ) → IsBeginning b.block prefix → IsIncomplete b.block prefix → IsFloor b prefix (first_greatest (value b prefix) (Chain (longest_chain b prefix)) after_chain)
part-floor b prefix h short =
    let (n, stays) = some-remains b.block prefix h short in
    let is = longest-is_chain b prefix n stays in
    let best = first_greatest-before (value b prefix) after_chain (Chain (longest_chain b prefix)) (leaves-ordered (longest_chain b prefix)) in
    let x : Leaf = first_greatest (value b prefix) (Chain (longest_chain b prefix)) after_chain in
    let before = part-before b prefix x short is.1 best.0 best.1 in
    record {
      stands = first_greatest-holds (λ leaf. MayStand b prefix leaf) (value b prefix) after_chain (Chain (longest_chain b prefix)) (short, is.0) (each-after (λ leaf. MayStand b prefix leaf) (λ kind. short) short);
      greatest = λ other may. (before other may).0;
      first = λ other may. (before other may).1;
    }

pub floor-is : (b : Problem) (prefix : List ℕ) → IsBeginning b.block prefix → IsFloor b prefix (floor b prefix)
floor-is b prefix h =
    elim (cases_eq (length prefix) (length b.block)) [
      | inl is ↦ subst (λ leaf. IsFloor b prefix leaf) (sym (floor-whole b prefix is)) (whole-floor b prefix is)
      | inr past ↦ subst (λ leaf. IsFloor b prefix leaf) (sym (floor-part b prefix past)) (part-floor b prefix h (beginning-short b.block prefix h past))
    ]

pub floor-stands : (b : Problem) (prefix : List ℕ) → IsBeginning b.block prefix → MayStand b prefix (floor b prefix)
floor-stands b prefix h = (floor-is b prefix h).stands

-- THERE IS NO OTHER

-- the leaf of a rank
leaf_of : List ℕ → Leaf
leaf_of [] = Whole
leaf_of (zero ∷ numbers) = Chain numbers
leaf_of (suc zero ∷ kind) = Load (get_or all_kinds (get_or kind 0 0) Boolean)
leaf_of (suc (suc _) ∷ _) = Parcels

rank-back : (leaf : Leaf) → leaf_of (rank leaf) ≡ leaf
unfolding leaf_of
rank-back Whole = refl
rank-back (Chain numbers) = refl
rank-back (Load Boolean) = refl
rank-back (Load Shift) = refl
rank-back (Load Add) = refl
rank-back (Load LongAdd) = refl
rank-back (Load Multiply) = refl
rank-back (Load Divide) = refl
rank-back (Load Increment) = refl
rank-back Parcels = refl

-- leaves of one rank are one
rank-same : (x y : Leaf) → rank x ≡ rank y → x ≡ y
rank-same x y same = sym (rank-back x) ∙ (ap leaf_of same ∙ rank-back y)

pub floor-only : (b : Problem) (prefix : List ℕ) (x y : Leaf) → IsFloor b prefix x → IsFloor b prefix y → x ≡ y
floor-only b prefix x y h1 h2 =
    let same : value b prefix x ≡ value b prefix y = omega (arith, h1.greatest y h2.stands, h2.greatest x h1.stands) in
    rank-same x y (IsNoLater-both (rank x) (rank y) (h1.first y h2.stands (sym same)) (h2.first x h1.stands same))
