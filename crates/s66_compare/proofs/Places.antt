-- The place of a number in an order, as `place_of` looks for it from a place on.
use Rattle.std.proofs.Common.{ℕ, suc, ◌+◌, ◌-◌, ◌≡◌, ◌≤◌, ◌<◌, ◌∙◌, true, false, List, get_or, refl, ap, arith, ◌==◌}
use Rattle.s66_isa.specs.{least_from}

-- from this place on
abbrev pub place_from : (count : ℕ) (order : List ℕ) (n place : ℕ) → ℕ
place_from count order n place = least_from (λ k. get_or order k 0 == n) (count - 1 - place) place

more-left : (count place : ℕ) → place < count - 1 → count - 1 - place ≡ suc (count - 1 - (place + 1))
more-left count place below = omega (arith, below)

pub place_here : (count : ℕ) (order : List ℕ) (n place : ℕ) → place < count - 1 → (get_or order place 0 == n) ≡ true → place_from count order n place ≡ place
place_here count order n place below here = ap (λ fuel. least_from (λ k. get_or order k 0 == n) fuel place) (more-left count place below) ∙ rw here refl

pub place_next : (count : ℕ) (order : List ℕ) (n place : ℕ) → place < count - 1 → (get_or order place 0 == n) ≡ false → place_from count order n place ≡ place_from count order n (place + 1)
place_next count order n place below other =
    let next : suc place ≡ place + 1 = omega arith in
    ap (λ fuel. least_from (λ k. get_or order k 0 == n) fuel place) (more-left count place below)
    ∙ rw other (ap (λ p. least_from (λ k. get_or order k 0 == n) (count - 1 - (place + 1)) p) next)

pub place_last : (count : ℕ) (order : List ℕ) (n place : ℕ) → count - 1 ≤ place → place_from count order n place ≡ place
place_last count order n place past =
    let none : count - 1 - place ≡ 0 = omega (arith, past) in
    ap (λ fuel. least_from (λ k. get_or order k 0 == n) fuel place) none
