-- The longest walks from a number on, as far as the later numbers were looked at.
use Rattle.std.proofs.Common.{ℕ, ◌+◌, ◌≤◌, ◌≡◌, max, [], ◌∷◌, ap, arith, ltb, le-ltb}
use Rattle.std.proofs.lemmas.Bool.{and_left, cond-false}
use Rattle.s66_isa.specs.{greatest, rising}
use Rattle.s66_isa.proofs.Lists.{greatest-append, greatest-le, among-rising}
use Rattle.s66_model.specs.{Problem, row_at, link, is_linked, longest_tail, walk_to}
use Rattle.s66_time.proofs.OrderNumbers.{rising-more}

-- none goes on with a number that isn't later
walk-back : (b : Problem) (n m : ℕ) → m ≤ n → walk_to b n m ≡ 0
walk-back b n m le =
    cond-false {A = ℕ} (is_linked b n m) (link (row_at b n) (row_at b m) + longest_tail b m) 0 (and_left (ltb n m) (ltb 0 (link (row_at b n) (row_at b m))) (le-ltb n m le))

pub walks-back : (b : Problem) (n k : ℕ) → k ≤ n → greatest (walk_to b n) (rising k 1) ≡ 0
walks-back b n k le =
    omega (arith, greatest-le (walk_to b n) 0 (rising k 1) (λ m among. let (low, high) = among-rising k 1 m among in omega (arith, walk-back b n m (omega (arith, high, le)))))

pub greatest-next : (f : ℕ → ℕ) (k : ℕ) → greatest f (rising (k + 1) 1) ≡ max (greatest f (rising k 1)) (f (k + 1))
greatest-next f k = omega (arith, ap (greatest f) (rising-more k), greatest-append f (rising k 1) ((k + 1) ∷ []))
