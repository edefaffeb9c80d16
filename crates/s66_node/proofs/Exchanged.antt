-- Two neighbours of an order that change places: how many pairs stand in reverse then.
use Rattle.std.proofs.Common.{◌≡◌, ◌≤◌, ◌<◌, ◌+◌, ◌*◌, ◌∷◌, ℕ, zero, suc, cond, List, [], length, get_or, set, swap, nat_lt, arith}
use Rattle.std.proofs.lemmas.List.Edits.{swap_is}
use Rattle.s66_node.specs.{below, reversed}

-- both in each other's place
pub exchange-below : (n : ℕ) (xs : List ℕ) (i : ℕ) → suc i < length xs →
    below n (set (set xs i (get_or xs (suc i) 0)) (suc i) (get_or xs i 0)) ≡ below n xs
exchange-below n [] i lt = absurd (omega arith)
exchange-below n (x ∷ []) i lt = absurd (omega arith)
exchange-below n (x ∷ (y ∷ xs)) zero lt = omega arith
exchange-below n (x ∷ (y ∷ xs)) (suc i) lt = omega (arith, exchange-below n (y ∷ xs) i (omega arith))

pub exchange-reversed : (xs : List ℕ) (i : ℕ) → suc i < length xs →
    reversed (set (set xs i (get_or xs (suc i) 0)) (suc i) (get_or xs i 0)) + cond (nat_lt (get_or xs (suc i) 0) (get_or xs i 0)) 1 0
    ≡ reversed xs + cond (nat_lt (get_or xs i 0) (get_or xs (suc i) 0)) 1 0
exchange-reversed [] i lt = absurd (omega arith)
exchange-reversed (x ∷ []) i lt = absurd (omega arith)
exchange-reversed (x ∷ (y ∷ xs)) zero lt = omega arith
exchange-reversed (x ∷ (y ∷ xs)) (suc i) lt =
    omega (arith, exchange-below x (y ∷ xs) i (omega arith), exchange-reversed (y ∷ xs) i (omega arith))

below-le : (n : ℕ) (xs : List ℕ) → below n xs ≤ length xs
below-le n [] = omega arith
below-le n (x ∷ xs) = grind (arith, below-le n xs)

pub reversed-le : (xs : List ℕ) (limit : ℕ) → length xs ≤ limit → reversed xs ≤ limit * length xs
reversed-le [] limit few = omega arith
reversed-le (x ∷ xs) limit few = grind (arith, below-le x xs, reversed-le xs limit (omega arith), few)

pub swap-reversed : (xs : List ℕ) (i : ℕ) → i + 1 < length xs →
    reversed (swap xs i (i + 1)) + cond (nat_lt (get_or xs (i + 1) 0) (get_or xs i 0)) 1 0
    ≡ reversed xs + cond (nat_lt (get_or xs i 0) (get_or xs (i + 1) 0)) 1 0
swap-reversed xs i lt =
    let same : i + 1 ≡ suc i = omega arith in
    rw (← swap_is xs i (i + 1) 0 (omega (arith, lt)) lt) (rw same (exchange-reversed xs i (omega (arith, lt))))
