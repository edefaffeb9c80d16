-- What stands before a number by dependence, found from the first number on.
use Rattle.std.proofs.Common.{ℕ, ◌+◌, ◌-◌, ◌≤◌, ◌<◌, ◌≡◌, ◌⊎◌, ◌==◌, ◌||◌, true, false, true≢false, List, length, get_or, refl, sym, ap, arith, inl, inr, ltb, ◌∙◌, subst, eqb-true, eq-eqb, ltb-true}
use Rattle.std.proofs.lemmas.Bool.{and_parts, or_cases, or_left, or_right, cases_lt}
use Rattle.s66_isa.specs.{Instr, instr_at, Set, has, numbers_in, no_set}
use Rattle.s66_model.specs.{conflict, depends}
use Rattle.s66_moments.specs.{precedes}
use Rattle.s66_moments.proofs.Preceders.{precedes-near, precedes-far, precedes-cases}
use Rattle.s66_facts.specs.{IsClosedUpTo}
use Rattle.s66_facts.proofs.Each.{same-bool}

-- what the numbers up to one give
pub record IsSoFar (block : List Instr) (n count : ℕ) (sooner : Set) : Type 0 where
  pub right : (m : ℕ) → 1 ≤ m → has m (numbers_in sooner) ≡ true → precedes block m n ≡ true
  pub whole : (k m : ℕ) → 1 ≤ k → k ≤ count → 1 ≤ m → depends block k n ≡ true → ((m ≡ k) ⊎ (precedes block m k ≡ true)) → has m (numbers_in sooner) ≡ true

pub so_far-none : (block : List Instr) (n : ℕ) (none : Set) → ((m : ℕ) → has m (numbers_in none) ≡ false) → IsSoFar block n 0 none
so_far-none block n none off =
    record {
      right = λ m one is. absurd (true≢false (sym is ∙ off m));
      whole = λ k m low high. absurd (omega (arith, low, high));
    }

module _ (block : List Instr) (n count : ℕ) (old : Set) (high_n : n ≤ length block) where
  abbrev k : ℕ
  k = count + 1

  pub so_far-more : (own both new : Set) → depends block k n ≡ true → IsSoFar block n count old → ((m : ℕ) → 1 ≤ m → has m (numbers_in own) ≡ precedes block m k) → ((m : ℕ) → has m (numbers_in both) ≡ (has m (numbers_in old) || has m (numbers_in own))) → ((m : ℕ) → 1 ≤ m → has m (numbers_in new) ≡ (m == k || has m (numbers_in both))) → IsSoFar block n (count + 1) new
  so_far-more own both new dep so own_is both_is new_is = record { right = right; whole = whole }
    where
      right : (m : ℕ) → 1 ≤ m → has m (numbers_in new) ≡ true → precedes block m n ≡ true
      right m one is =
          elim (or_cases (m == k) (has m (numbers_in both)) (sym (new_is m one) ∙ is)) [
            | inl same ↦ precedes-near block m n (subst (λ j. depends block j n ≡ true) (sym (eqb-true m k same)) dep)
            | inr more ↦
                elim (or_cases (has m (numbers_in old)) (has m (numbers_in own)) (sym (both_is m) ∙ more)) [
                  | inl was ↦ so.right m one was
                  | inr its ↦ precedes-far block m k n high_n (sym (own_is m one) ∙ its) dep
                ]
          ]

      old-new : (m : ℕ) → 1 ≤ m → has m (numbers_in old) ≡ true → has m (numbers_in new) ≡ true
      old-new m one is = new_is m one ∙ or_right (m == k) (has m (numbers_in both)) (both_is m ∙ or_left (has m (numbers_in old)) (has m (numbers_in own)) is)

      whole : (j m : ℕ) → 1 ≤ j → j ≤ k → 1 ≤ m → depends block j n ≡ true → ((m ≡ j) ⊎ (precedes block m j ≡ true)) → has m (numbers_in new) ≡ true
      whole j m low high one dep_j way =
          elim (cases_lt j k) [
            | inl less ↦ old-new m one (so.whole j m low (omega (arith, less)) one dep_j way)
            | inr ge ↦
                let same : j ≡ k = omega (arith, high, ge) in
                elim way [
                  | inl is_j ↦ new_is m one ∙ or_left (m == k) (has m (numbers_in both)) (eq-eqb m k (is_j ∙ same))
                  | inr first ↦ new_is m one ∙ or_right (m == k) (has m (numbers_in both)) (both_is m ∙ or_right (has m (numbers_in old)) (has m (numbers_in own)) (own_is m one ∙ subst (λ i. precedes block m i ≡ true) same first))
                ]
          ]

  pub so_far-past : depends block k n ≡ false → IsSoFar block n count old → IsSoFar block n (count + 1) old
  so_far-past off so =
      record {
        right = so.right;
        whole = λ j m low high one dep_j way. elim (cases_lt j k) [
          | inl less ↦ so.whole j m low (omega (arith, less)) one dep_j way
          | inr ge ↦ (let same : j ≡ k = omega (arith, high, ge) in absurd (true≢false (sym (subst (λ i. depends block i n ≡ true) same dep_j) ∙ off)))
        ];
      }

pub so_far-all : (block : List Instr) (n count : ℕ) (sooner : Set) → 1 ≤ n → n ≤ length block → n ≤ count + 1 → IsSoFar block n count sooner → (m : ℕ) → 1 ≤ m → has m (numbers_in sooner) ≡ precedes block m n
so_far-all block n count sooner low high all so m one =
    same-bool (has m (numbers_in sooner)) (precedes block m n) (so.right m one) (λ first.
    elim (precedes-cases block m n low high first) [
      | inl dep ↦
          let less : m < n = ltb-true m n (and_parts (ltb m n) (conflict (instr_at block m) (instr_at block n)) dep).0 in
          so.whole m m one (omega (arith, less, all)) one dep (inl refl)
      | inr (k, low_k, less, by, dep) ↦ so.whole k m low_k (omega (arith, less, all)) one dep (inr by)
    ])

-- those of one
pub closed-at : (block : List Instr) (marks : List Set) (count i : ℕ) (own : Set) → IsClosedUpTo block marks count → i < count → own ≡ get_or marks i no_set → (m : ℕ) → 1 ≤ m → has m (numbers_in own) ≡ precedes block m (i + 1)
closed-at block marks count i own closed less there m one =
    let same : i ≡ i + 1 - 1 = omega arith in
    ap (λ ms. has m (numbers_in ms)) (there ∙ ap (λ j. get_or marks j no_set) same) ∙ closed (i + 1) m (omega arith) (omega (arith, less)) one
