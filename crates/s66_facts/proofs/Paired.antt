-- A pair more, in what is kept of which number stands before which.
use Rattle.std.proofs.Common.{ℕ, ◌+◌, ◌-◌, ◌≤◌, ◌≡◌, ◌==◌, ◌||◌, ◌&&◌, true, false, true≢false, List, [], ◌∷◌, ◌++◌, length, get_or, sym, ap, arith, inl, inr, leb, ◌∙◌, subst, ne_eqb, leb-true}
use Rattle.std.proofs.Math.Path.{fun_ext}
use Rattle.std.proofs.lemmas.Bool.{and_parts, and_left, and_right, or_from, cases_Bool}
use Rattle.s66_isa.specs.{Set, has, numbers_in, no_set}
use Rattle.s66_moments.specs.{with_pair}
use Rattle.s66_facts.specs.{is_in, before_in}
use Rattle.s66_facts.proofs.Each.{each-push}

-- those of one number with the pair
abbrev pub IsPaired : List Set → ℕ → ℕ → ℕ → Set → Type 0
IsPaired old j k n own =
    (m : ℕ) → has m (numbers_in own) ≡ (has m (numbers_in (get_or old (n - 1) no_set)) || (m == j || has m (numbers_in (get_or old (j - 1) no_set))) && (n == k || has k (numbers_in (get_or old (n - 1) no_set))))

abbrev pub ArePaired : List Set → ℕ → ℕ → ℕ → List Set → Type 0
ArePaired old j k count new = (n : ℕ) → 1 ≤ n → n ≤ count → IsPaired old j k n (get_or new (n - 1) no_set)

module _ (old new : List Set) (j k : ℕ) (same : length new ≡ length old) (in_j : is_in old j ≡ true) (in_k : is_in old k ≡ true) (paired : ArePaired old j k (length old) new) where
  in-new : (n : ℕ) → is_in new n ≡ is_in old n
  in-new n = ap (λ c. leb 1 n && leb n c) same

  out-differs : (n i : ℕ) → is_in old n ≡ false → is_in old i ≡ true → (n == i) ≡ false
  out-differs n i off on = ne_eqb n i (λ e. absurd (true≢false (sym on ∙ (ap (is_in old) (sym e) ∙ off))))

  pair-at : (m n : ℕ) → before_in new m n ≡ with_pair (before_in old) j k m n
  pair-at m n =
      elim (cases_Bool (is_in old m)) [
        | inr off ↦
            and_left (is_in new m && is_in new n) (has m (numbers_in (get_or new (n - 1) no_set))) (and_left (is_in new m) (is_in new n) (in-new m ∙ off))
            ∙ sym (or_from (before_in old m n) ((m == j || before_in old m j) && (n == k || before_in old k n)) (outside-first m n off)
            (and_left (m == j || before_in old m j) (n == k || before_in old k n) (or_from (m == j) (before_in old m j) (out-differs m j off in_j) (outside-first m j off))))
        | inl is_m ↦
            elim (cases_Bool (is_in old n)) [
              | inr off ↦
                  and_left (is_in new m && is_in new n) (has m (numbers_in (get_or new (n - 1) no_set))) (and_right (is_in new m) (is_in new n) (in-new n ∙ off))
                  ∙ sym (or_from (before_in old m n) ((m == j || before_in old m j) && (n == k || before_in old k n)) (outside-second m n off)
                  (and_right (m == j || before_in old m j) (n == k || before_in old k n) (or_from (n == k) (before_in old k n) (out-differs n k off in_k) (outside-second k n off))))
              | inl is_n ↦
                  let (low, high) = and_parts (leb 1 n) (leb n (length old)) is_n in
                  rw (in-new m ∙ is_m, in-new n ∙ is_n, is_m, is_n, in_j, in_k) (paired n (leb-true 1 n low) (leb-true n (length old) high) m)
            ]
      ]
    where
      outside-first : (m n : ℕ) → is_in old m ≡ false → before_in old m n ≡ false
      outside-first m n off = and_left (is_in old m && is_in old n) (has m (numbers_in (get_or old (n - 1) no_set))) (and_left (is_in old m) (is_in old n) off)

      outside-second : (m n : ℕ) → is_in old n ≡ false → before_in old m n ≡ false
      outside-second m n off = and_left (is_in old m && is_in old n) (has m (numbers_in (get_or old (n - 1) no_set))) (and_right (is_in old m) (is_in old n) off)

  pub pair-is : before_in new ≡ with_pair (before_in old) j k
  pair-is = fun_ext (λ m. fun_ext (λ n. pair-at m n))

-- one number more
pub paired-push : (old all whole : List Set) (own : Set) (j k position : ℕ) → length all ≡ position → ArePaired old j k position all
    → ((m : ℕ) → has m (numbers_in own) ≡ (has m (numbers_in (get_or old position no_set)) || (m == j || has m (numbers_in (get_or old (j - 1) no_set))) && (position + 1 == k || has k (numbers_in (get_or old position no_set)))))
    → whole ≡ all ++ own ∷ [] → (length whole ≡ position + 1) × ArePaired old j k (position + 1) whole
paired-push old all whole own j k position is paired its is_whole =
    let at : position ≡ position + 1 - 1 = omega arith in
    each-push (λ n ms. IsPaired old j k n ms) all whole own position is paired
    (subst (λ i. (m : ℕ) → has m (numbers_in own) ≡ (has m (numbers_in (get_or old i no_set)) || (m == j || has m (numbers_in (get_or old (j - 1) no_set))) && (position + 1 == k || has k (numbers_in (get_or old i no_set))))) at its) is_whole
