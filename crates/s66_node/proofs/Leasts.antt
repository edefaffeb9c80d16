-- The first of the least of some legal orders, and one more.
use Rattle.std.proofs.Common.{ℕ, ◌≤◌, ◌<◌, ◌≡◌, List, [], ◌∷◌, ◌++◌, Option, None, Some, refl, sym, ap, arith, inl, inr, ◌∙◌, subst, append_assoc}
use Rattle.s66_isa.specs.{Among}
use Rattle.s66_isa.proofs.Lists.{among-rest}
use Rattle.s66_model.specs.{IsLegal, Problem, total_of}
use Rattle.s66_node.specs.{WholeOrder, IsLeast}

pub among-either : {X : Type 0} (x : X) (xs ys : List X) (R : Type 0) → (Among x xs → R) → (Among x ys → R) → Among x (xs ++ ys) → R
among-either x [] ys R f g h = g h
among-either x (y ∷ xs) ys R f g (inl e) = f (inl e)
among-either x (y ∷ xs) ys R f g (inr h) = among-either x xs ys R (λ k. f (inr k)) g h

-- it is one of them, and none is lower
least-among : (b : Problem) (orders : List (List ℕ)) (least : WholeOrder) → IsLeast b orders (Some least) → Among least.numbers.items orders
least-among b orders least (legal, total, before, after, is, lower, not_lower) =
    subst (Among least.numbers.items) (sym is) (among-rest least.numbers.items before (least.numbers.items ∷ after) (inl refl))

least-all : (b : Problem) (orders : List (List ℕ)) (least : WholeOrder) → IsLeast b orders (Some least) → (other : List ℕ) → Among other orders → least.total ≤ total_of b other
least-all b orders least (legal, total, before, after, is, lower, not_lower) other among =
    among-either other before (least.numbers.items ∷ after) (least.total ≤ total_of b other)
    (λ one. omega (arith, lower other one))
    (λ rest. elim rest [ inl e ↦ omega (arith, total, ap (total_of b) e) | inr one ↦ not_lower other one ])
    (subst (Among other) is among)

pub least-best : (b : Problem) (orders : List (List ℕ)) (least : WholeOrder) → IsLeast b orders (Some least) → Among least.numbers.items orders × ((other : List ℕ) → Among other orders → total_of b least.numbers.items ≤ total_of b other)
least-best b orders least h = (least-among b orders least h, λ other among. omega (arith, h.1, least-all b orders least h other among))

-- an order that isn't lower
pub least-kept : (b : Problem) (orders : List (List ℕ)) (least : WholeOrder) (order : List ℕ) → least.total ≤ total_of b order → IsLeast b orders (Some least) → IsLeast b (orders ++ order ∷ []) (Some least)
least-kept b orders least order le (legal, total, before, after, is, lower, not_lower) = (
  legal,
  total,
  before,
  after ++ order ∷ [],
  ap (λ xs. xs ++ order ∷ []) is ∙ append_assoc before (least.numbers.items ∷ after) (order ∷ []),
  lower,
  λ x among. among-either x after (order ∷ []) (least.total ≤ total_of b x) (not_lower x) (λ one. elim one [ inl e ↦ omega (arith, le, ap (total_of b) e) | inr none ↦ absurd none ]) among,
)

-- a lower one, or the first
pub least-new : (b : Problem) (orders : List (List ℕ)) (old : Option WholeOrder) (least : WholeOrder) (order : List ℕ) → IsLegal b.block order → least.numbers.items ≡ order → least.total ≡ total_of b order → ((found : WholeOrder) → old ≡ Some found → least.total < found.total) → IsLeast b orders old → IsLeast b (orders ++ order ∷ []) (Some least)
least-new b orders old least order legal is total lower h = (
  subst (IsLegal b.block) (sym is) legal,
  total ∙ ap (total_of b) (sym is),
  orders,
  [],
  ap (λ x. orders ++ x ∷ []) (sym is),
  below old refl h,
  λ x none. absurd none,
)
  where
    below : (o : Option WholeOrder) → old ≡ o → IsLeast b orders o → (x : List ℕ) → Among x orders → least.total < total_of b x
    below None e none x among = absurd (subst (Among x) none among)
    below (Some found) e some x among = omega (arith, lower found e, least-all b orders found some x among)

pub some-same : {X : Type 0} (x y : X) → Some x ≡ Some y → x ≡ y
some-same x y e = cc
