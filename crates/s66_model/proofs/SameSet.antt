-- What is ready, what remains and sums over it depend on which numbers are placed, and not on their order.
use Rattle.std.proofs.Common.{ℕ, zero, suc, ◌≡◌, Bool, cond, List, [], ◌∷◌, refl, ap, arith, filter}
use Rattle.s66_isa.specs.{Instr, has, weigh, numbers}
use Rattle.s66_model.specs.{needs_met, is_remaining, is_ready, ready, remaining, sum_remaining}

filter-same : {X : Type 0} (test other : X → Bool) → ((x : X) → test x ≡ other x) → (xs : List X) → filter test xs ≡ filter other xs
filter-same test other same [] = refl
filter-same test other same (x ∷ xs) = rw (same x, filter-same test other same xs) refl

weigh-same : {X : Type 0} (f g : X → ℕ) → ((x : X) → f x ≡ g x) → (xs : List X) → weigh f xs ≡ weigh g xs
weigh-same f g same [] = refl
weigh-same f g same (x ∷ xs) = omega (arith, same x, weigh-same f g same xs)

module _ (block : List Instr) (xs ys : List ℕ) (same : (m : ℕ) → has m xs ≡ has m ys) where
  needs_met-same : (n k : ℕ) → needs_met block xs n k ≡ needs_met block ys n k
  needs_met-same n zero = refl
  needs_met-same n (suc k) = rw (same (suc k), needs_met-same n k) refl

  pub is_remaining-same : (n : ℕ) → is_remaining block xs n ≡ is_remaining block ys n
  is_remaining-same n = rw (same n) refl

  pub is_ready-same : (n : ℕ) → is_ready block xs n ≡ is_ready block ys n
  is_ready-same n = rw (same n, needs_met-same n n) refl

  pub ready-same : ready block xs ≡ ready block ys
  ready-same = filter-same (is_ready block xs) (is_ready block ys) is_ready-same (numbers block)

  pub remaining-same : remaining block xs ≡ remaining block ys
  remaining-same = filter-same (is_remaining block xs) (is_remaining block ys) is_remaining-same (numbers block)

  pub sum_remaining-same : (w : ℕ → ℕ) → sum_remaining block xs w ≡ sum_remaining block ys w
  sum_remaining-same w =
      weigh-same (λ n. cond (has n xs) 0 (w n)) (λ n. cond (has n ys) 0 (w n)) (λ n. ap (λ t. cond t 0 (w n)) (same n)) (numbers block)
