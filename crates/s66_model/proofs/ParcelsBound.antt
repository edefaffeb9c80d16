-- The parcels are a lower bound.
use Rattle.std.proofs.Common.{ℕ, ◌≤◌, ◌≡◌, List, [], ◌∷◌, ◌++◌, refl, ap, arith, ◌∙◌, subst}
use Rattle.s66_isa.specs.{weigh}
use Rattle.s66_isa.proofs.Lists.{weigh-append, least-le}
use Rattle.s66_model.specs.{Problem, row_at, point_of, points_after, points_of, total_of, remaining, sum_remaining, IsBeginning, Completes, if_last, parcels}
use Rattle.s66_model.proofs.LegalOrders.{GoesOn-append, sum_remaining-is_rest}
use Rattle.s66_model.proofs.Remaining.{later-remains, among-remaining}
use Rattle.s66_model.proofs.PointTimes.{points_after-append, next-grows, next-le-issue, issue-le-start, tail-le-last}

last_number : (n : ℕ) (rest : List ℕ) → (front : List ℕ) × (m : ℕ) × (n ∷ rest ≡ front ++ m ∷ [])
last_number n [] = ([], n, refl)
last_number n (m ∷ rest) =
    let (front, k, e) = last_number m rest in
    (n ∷ front, k, ap (λ xs. n ∷ xs) e)

module _ (b : Problem) (prefix : List ℕ) (begins : IsBeginning b.block prefix) where
  -- of an order that goes on there with front and then ends with n
  if_last-le : (front : List ℕ) (n : ℕ) → Completes b.block prefix (front ++ n ∷ []) → if_last b prefix n ≤ total_of b (prefix ++ (front ++ n ∷ []))
  if_last-le front n h =
      let s = points_of b prefix in
      let t = points_after b s front in
      let e : points_of b (prefix ++ (front ++ n ∷ [])) ≡ point_of b t n ∷ t = points_after-append b [] prefix (front ++ n ∷ []) ∙ points_after-append b s front (n ∷ []) in
      let sum : sum_remaining b.block prefix (λ m. (row_at b m).parcels) ≡ weigh (λ m. (row_at b m).parcels) (front ++ n ∷ []) = sum_remaining-is_rest b.block (λ m. (row_at b m).parcels) prefix (front ++ n ∷ []) begins h in
      rw e (omega (arith, sum, weigh-append (λ m. (row_at b m).parcels) front (n ∷ []), next-grows b s front, next-le-issue b t n, issue-le-start b t n, tail-le-last b t n))

  parcels-le : (front : List ℕ) (n : ℕ) → Completes b.block prefix (front ++ n ∷ []) → parcels b prefix ≤ if_last b prefix n
  parcels-le front n h =
      least-le (if_last b prefix) n (remaining b.block prefix) (among-remaining b.block prefix n (later-remains b.block prefix front n (GoesOn-append b.block prefix front (n ∷ []) h.0).1.0))

  -- every order that goes on from there takes at least the value
  pub parcels-sound : (n : ℕ) (rest : List ℕ) → Completes b.block prefix (n ∷ rest) → parcels b prefix ≤ total_of b (prefix ++ n ∷ rest)
  parcels-sound n rest h =
      let (front, m, e) = last_number n rest in
      let h2 : Completes b.block prefix (front ++ m ∷ []) = subst (λ xs. Completes b.block prefix xs) e h in
      rw e (omega (arith, parcels-le front m h2, if_last-le front m h2))
