-- Tables that are filled cost by cost, and what they say of the block's numbers.
use Rattle.std.proofs.Common.{ℕ, ◌+◌, ◌≤◌, ◌<◌, ◌≡◌, Bool, List, [], ◌∷◌, ◌++◌, length, length-append, get_or, sym, subst, ap, arith, inl, inr, ◌∙◌}
use Rattle.std.proofs.lemmas.Bool.{cases_lt}
use Rattle.std.proofs.lemmas.List.{get_or_append_left}
use Rattle.std.proofs.Math.Seq.{get_or-append_seam}
use Rattle.s66_isa.specs.{BLOCK_LIMIT, has, Set, numbers_in}
use Rattle.s66_isa.proofs.Sets.{within, numbers_in-filter}
use Rattle.s66_model.specs.{Problem, row_at}
use Rattle.s66_bound.specs.{Cost, IsCostOf, AreCosts, AreThose}

-- with the cost of the next number
pub costs-push : (b : Problem) (es : List Cost) (e : Cost) → ((i : ℕ) (d : Cost) → i < length es → IsCostOf (row_at b (i + 1)) (get_or es i d)) → IsCostOf (row_at b (length es + 1)) e →
    (i : ℕ) (d : Cost) → i < length (es ++ e ∷ []) → IsCostOf (row_at b (i + 1)) (get_or (es ++ e ∷ []) i d)
costs-push b es e kept last i d below =
    elim (cases_lt i (length es)) [
      | inl before ↦ subst (IsCostOf (row_at b (i + 1))) (sym (get_or_append_left es (e ∷ []) d i before)) (kept i d before)
      | inr past ↦
          let here : i ≡ length es = omega (arith, below, length-append es (e ∷ [])) in
          subst (λ j. IsCostOf (row_at b (j + 1)) (get_or (es ++ e ∷ []) j d)) (sym here)
          (subst (IsCostOf (row_at b (length es + 1))) (sym (get_or-append_seam es e [] d)) last)
    ]

pub cost-at : (b : Problem) (es : List Cost) (place : ℕ) (e : Cost) → AreCosts b es → place < length es → e ≡ get_or es place e → IsCostOf (row_at b (place + 1)) e
cost-at b es place e are lt is = subst (IsCostOf (row_at b (place + 1))) (sym is) (are.each place e lt)

-- once all were looked at
pub set-filled : (b : Problem) (es : List Cost) (test : ℕ → Bool) (set : Set) (k : ℕ) → AreCosts b es → length es ≤ BLOCK_LIMIT → k ≡ length es →
    ((m : ℕ) → has m (numbers_in set) ≡ within test (k + 1) m) → AreThose b test set
set-filled b es test set k are few all known =
    numbers_in-filter set test (length b.block) (omega (arith, are.count, few)) (λ m. known m ∙ ap (λ j. within test (j + 1) m) (all ∙ are.count))
