-- Marks of each number of a block, made number after number, as `none_each`, `turned` and `near_each` make them.
use Rattle.std.proofs.Common.{ℕ, ◌+◌, ◌-◌, ◌≤◌, ◌≡◌, Bool, true, false, List, [], ◌∷◌, ◌++◌, length, get_or, refl, sym, ap, arith, inl, inr, ◌∙◌, subst, le-leb, length-append}
use Rattle.std.proofs.lemmas.Bool.{cases_lt}
use Rattle.std.proofs.lemmas.List.{get_or_append_left, get_or_push}
use Rattle.s66_isa.specs.{Set, has, numbers_in, no_set}
use Rattle.s66_facts.specs.{before_in}

pub each-push : (P : ℕ → Set → Type 0) (all whole : List Set) (own : Set) (position : ℕ) → length all ≡ position → ((n : ℕ) → 1 ≤ n → n ≤ position → P n (get_or all (n - 1) no_set)) → P (position + 1) own → whole ≡ all ++ own ∷ []
    → (length whole ≡ position + 1) × ((n : ℕ) → 1 ≤ n → n ≤ position + 1 → P n (get_or whole (n - 1) no_set))
each-push P all whole own position is old new is_whole = (omega (arith, ap (λ (ms : List Set). length ms) is_whole, length-append all (own ∷ []), is), each)
  where
    each : (n : ℕ) → 1 ≤ n → n ≤ position + 1 → P n (get_or whole (n - 1) no_set)
    each n low high =
        elim (cases_lt n (position + 1)) [
          | inl less ↦
              subst (P n) (sym (ap (λ ms. get_or ms (n - 1) no_set) is_whole ∙ get_or_append_left all (own ∷ []) no_set (n - 1) (omega (arith, less, is, low)))) (old n low (omega (arith, less)))
          | inr ge ↦
              let last : length all ≡ n - 1 = omega (arith, high, ge, is) in
              let same : position + 1 ≡ n = omega (arith, high, ge) in
              subst (P n) (sym (ap (λ ms. get_or ms (n - 1) no_set) is_whole ∙ get_or_push all own no_set (n - 1) last)) (subst (λ k. P k own) same new)
        ]

-- of two numbers of a block
pub within-marked : (marks : List Set) (m n : ℕ) → 1 ≤ m → m ≤ length marks → 1 ≤ n → n ≤ length marks → before_in marks m n ≡ has m (numbers_in (get_or marks (n - 1) no_set))
within-marked marks m n low_m high_m low_n high_n = rw (le-leb 1 m low_m, le-leb m (length marks) high_m, le-leb 1 n low_n, le-leb n (length marks) high_n) refl

-- of two tests that each give the other
pub same-bool : (x y : Bool) → (x ≡ true → y ≡ true) → (y ≡ true → x ≡ true) → x ≡ y
same-bool true y there back = sym (there refl)
same-bool false true there back = back refl
same-bool false false there back = refl
