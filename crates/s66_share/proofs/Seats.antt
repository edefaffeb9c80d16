-- The views of a shared table's seats: what holds of each, and sums over them.
use mathlib.Core.Option.{some, some-injective, some-ne-none}
use lib.ListN.{get_elem?}
use Rattle.std.proofs.Common.{◌≡◌, ◌≢◌, ℕ, zero, suc, ◌+◌, ◌<◌, ◌≤◌, List, [], ◌∷◌, ◌++◌, length, set, get_or, sym, refl, ap, subst, ⊎_elim, arith}
use Rattle.atomic_table.proofs.Lists.{at_set, at_snoc}
use Rattle.s66_isa.specs.{weigh}
use Rattle.s66_isa.proofs.Lists.{weigh-set}

abbrev pub EachAt : {A : Type 0} → (ℕ → A → Type 0) → List A → Type 0
EachAt {A} F l = (i : ℕ) (a : A) → get_elem? l i ≡ some a → F i a

module _ {A : Type 0} where
  pub inside : (l : List A) (i : ℕ) (a : A) → get_elem? l i ≡ some a → i < length l
  inside [] i a e = absurd (some-ne-none a (sym e))
  inside (x ∷ xs) zero a e = omega arith
  inside (x ∷ xs) (suc i) a e = let h = inside xs i a e in omega arith

  got : (l : List A) (i : ℕ) (a d : A) → get_elem? l i ≡ some a → get_or l i d ≡ a
  got [] i a d e = absurd (some-ne-none a (sym e))
  got (x ∷ xs) zero a d e = some-injective x a e
  got (x ∷ xs) (suc i) a d e = got xs i a d e

  pub each-set : (F : ℕ → A → Type 0) (l : List A) (i : ℕ) (w : A) → F i w → ((j : ℕ) (u : A) → j ≢ i → get_elem? l j ≡ some u → F j u) → EachAt F (set l i w)
  each-set F l i w here others j u e =
      ⊎_elim (λ (x : (j ≡ i) × (w ≡ u)). subst (λ (y : ℕ × A). F y.0 y.1) (λ k. (sym x.0 k, x.1 k)) here)
      (λ (x : (j ≢ i) × (get_elem? l j ≡ some u)). others j u x.0 x.1) (at_set l i j w u e)

  pub each-snoc : (F : ℕ → A → Type 0) (l : List A) (w : A) → EachAt F l → ((j : ℕ) → F j w) → EachAt F (l ++ w ∷ [])
  each-snoc F l w old new j u e = ⊎_elim (λ x. old j u x) (λ (x : w ≡ u). subst (λ (y : A). F j y) x (new j)) (at_snoc l w u j e)

  pub each-one : (F : ℕ → A → Type 0) (v : A) → F 0 v → EachAt F (v ∷ [])
  each-one F v h zero u e = subst (F 0) (some-injective v u e) h
  each-one F v h (suc j) u e = absurd (some-ne-none u (sym e))

  -- one view takes the place of another
  pub weigh-replaced : (f : A → ℕ) (l : List A) (i : ℕ) (v w : A) → get_elem? l i ≡ some v → weigh f (set l i w) + f v ≡ weigh f l + f w
  weigh-replaced f l i v w e = subst (λ (u : A). weigh f (set l i w) + f u ≡ weigh f l + f w) (got l i v v e) (weigh-set f l i w v (inside l i v e))

  pub le-weigh_at : (f : A → ℕ) (l : List A) (i : ℕ) (v : A) → get_elem? l i ≡ some v → f v ≤ weigh f l
  le-weigh_at f [] i v e = absurd (some-ne-none v (sym e))
  le-weigh_at f (x ∷ xs) zero v e = omega (arith, ap f (some-injective x v e))
  le-weigh_at f (x ∷ xs) (suc i) v e = omega (arith, le-weigh_at f xs i v e)

  -- two of them weigh no more than all
  pub two-le-weigh : (f : A → ℕ) (l : List A) (i j : ℕ) (v u : A) → get_elem? l i ≡ some v → get_elem? l j ≡ some u → j ≢ i → f v + f u ≤ weigh f l
  two-le-weigh f [] i j v u e e' n = absurd (some-ne-none v (sym e))
  two-le-weigh f (x ∷ xs) zero zero v u e e' n = absurd (n refl)
  two-le-weigh f (x ∷ xs) zero (suc j) v u e e' n = omega (arith, ap f (some-injective x v e), le-weigh_at f xs j u e')
  two-le-weigh f (x ∷ xs) (suc i) zero v u e e' n = omega (arith, ap f (some-injective x u e'), le-weigh_at f xs i v e)
  two-le-weigh f (x ∷ xs) (suc i) (suc j) v u e e' n = omega (arith, two-le-weigh f xs i j v u e e' (λ h. n (ap suc h)))

  pub one_item : (l : List A) (a : A) → length l ≡ 1 → set l 0 a ≡ a ∷ []
  one_item [] a e = absurd (omega arith)
  one_item (x ∷ []) a e = refl
  one_item (x ∷ y ∷ ys) a e = absurd (omega arith)
