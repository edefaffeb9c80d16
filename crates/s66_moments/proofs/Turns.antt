-- A number that remains issues after the parcels of all that is known to stand before it.
use Rattle.std.proofs.Common.{ℕ, ◌≤◌, ◌≡◌, Bool, true, false, true≢false, cond, List, [], ◌∷◌, ◌++◌, length, refl, sym, ap, arith, inl, inr, subst, ◌∙◌}
use Rattle.std.proofs.lemmas.Bool.{cases_Bool}
use Rattle.s66_isa.specs.{weigh, has, Among, numbers}
use Rattle.s66_isa.proofs.Lists.{among-rising}
use Rattle.s66_model.specs.{Problem, Point, row_at, points_of, next, IsLegal, IsBeginning, GoesOn, is_remaining, sum_remaining}
use Rattle.s66_model.proofs.LegalOrders.{GoesOn-append, sum_remaining-run}
use Rattle.s66_model.proofs.Remaining.{remaining-parts, legal-parts}
use Rattle.s66_model.proofs.PointTimes.{points_after-append, next-le-issue, next-grows}
use Rattle.s66_moments.specs.{Issue, Start, At, time_of, Fact, AreSo, IsNumber, IsKnown, ComesNoSooner, Known, turn, issue_at_least, start_at_least}
use Rattle.s66_moments.proofs.Placed.{time_at-placed}
use Rattle.s66_moments.proofs.FactLaws.{before-front, later-place, issue-start}
use Rattle.s66_moments.proofs.Soonest.{soonest-le}
use Rattle.s66_moments.proofs.Steps.{precedes-so}

weigh-none : {X : Type 0} (f : X → ℕ) (xs : List X) → ((x : X) → Among x xs → f x ≡ 0) → weigh f xs ≡ 0
weigh-none f [] none = omega arith
weigh-none f (x ∷ xs) none = omega (arith, none x (inl refl), weigh-none f xs (λ y among. none y (inr among)))

if-le : (test : Bool) (w : ℕ) → cond test w 0 ≤ w
if-le true w = omega arith
if-le false w = omega arith

-- of some no more than of all
weigh-some : (test : ℕ → Bool) (f : ℕ → ℕ) (ns : List ℕ) → weigh (λ m. cond (test m) (f m) 0) ns ≤ weigh f ns
weigh-some test f [] = omega arith
weigh-some test f (n ∷ ns) = omega (arith, if-le (test n) (f n), weigh-some test f ns)

module _ (b : Problem) (facts : List Fact) (known : Known) (is_known : IsKnown b facts known.before) where
  abbrev parcels_before : ℕ → ℕ → ℕ
  parcels_before n m = cond (known.before m n) (row_at b m).parcels 0

  module _ (order : List ℕ) (legal : IsLegal b.block order) (so : AreSo b order facts) where
    -- where n stands, all that is known to stand before it is placed
    none-left : (front more : List ℕ) (n : ℕ) → IsNumber b n → order ≡ front ++ n ∷ more → sum_remaining b.block front (parcels_before n) ≡ 0
    none-left front more n is_n here = weigh-none (λ m. cond (has m front) 0 (parcels_before n m)) (numbers b.block) none
      where
        none : (m : ℕ) → Among m (numbers b.block) → cond (has m front) 0 (parcels_before n m) ≡ 0
        none m among =
            elim (cases_Bool (has m front)) [
              | inl there ↦ rw there refl
              | inr new ↦
                  elim (cases_Bool (known.before m n)) [
                    | inl first ↦
                        let (low, high) = among-rising (length b.block) 1 m among in
                        let before = precedes-so b facts order legal so m n (is_known m n (low, omega (arith, high)) is_n first) in
                        absurd (true≢false (sym (before-front b order legal m n front more before here) ∙ new))
                    | inr other ↦ rw (new, other) refl
                  ]
            ]

    turn-le : (prefix rest : List ℕ) (n : ℕ) → order ≡ prefix ++ rest → is_remaining b.block prefix n ≡ true → turn b known prefix n ≤ time_of b order (At n Issue)
    turn-le prefix rest n is left =
        let (low, high, new) = remaining-parts b.block prefix n left in
        let (mid, more, here) = later-place b order legal prefix rest is n new low high in
        let begins : IsBeginning b.block (prefix ++ mid) = (legal-parts b.block (prefix ++ mid) (n ∷ more) (subst (λ ns. IsLegal b.block ns) here legal)).0 in
        let goes : GoesOn b.block prefix mid = (GoesOn-append b.block [] prefix mid begins).1 in
        omega (
          arith,
          sum_remaining-run b.block (parcels_before n) prefix mid goes,
          none-left (prefix ++ mid) more n (low, high) here,
          weigh-some (λ m. known.before m n) (λ m. (row_at b m).parcels) mid,
          next-grows b (points_of b prefix) mid,
          ap next (points_after-append b [] prefix mid),
          next-le-issue b (points_of b (prefix ++ mid)) n,
          time_at-placed b order legal (prefix ++ mid) more n (λ (p : Point). p.issue) here,
        )

  pub turn-comes : (low : ℕ) (prefix : List ℕ) (n : ℕ) → is_remaining b.block prefix n ≡ true → ComesNoSooner b low facts prefix n (issue_at_least b known prefix n) (start_at_least b known prefix n)
  turn-comes low prefix n left =
      record {
        issues = λ order legal less so. omega (arith, soonest-le b order legal prefix so.0.0 so.0.1 n Issue left, turn-le order legal so.1 prefix so.0.0 n so.0.1 left);
        starts = λ order legal less so.
            (let (from, to, new) = remaining-parts b.block prefix n left in
            omega (arith, soonest-le b order legal prefix so.0.0 so.0.1 n Start left, turn-le order legal so.1 prefix so.0.0 n so.0.1 left, issue-start b order legal n from to));
      }
