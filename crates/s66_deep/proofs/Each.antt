-- What is true of each value of an array that is filled in a loop, and of the one that a read past its end gives.
use Rattle.std.proofs.Common.{ℕ, zero, suc, List, [], ◌∷◌, get_or, set, replicate}

module _ {A : Type 0} (is : A → Type 0) (past : A) where
  -- it stays so if a value is set of which it is true
  pub each-set : (values : List A) (i j : ℕ) (value : A) → ((k : ℕ) → is (get_or values k past)) → is value → is (get_or (set values i value) j past)
  each-set [] i j value each own = each j
  each-set (v ∷ vs) zero zero value each own = own
  each-set (v ∷ vs) zero (suc j) value each own = each (suc j)
  each-set (v ∷ vs) (suc i) zero value each own = each zero
  each-set (v ∷ vs) (suc i) (suc j) value each own = each-set vs i j value (λ k. each (suc k)) own

  pub each-filled : (count i : ℕ) (value : A) → is value → is past → is (get_or (replicate count value) i past)
  each-filled zero i value own end = end
  each-filled (suc count) zero value own end = own
  each-filled (suc count) (suc i) value own end = each-filled count i value own end
