-- Those that decide the times of each number, once more stand on one side of it.
use Rattle.std.proofs.Common.{ℕ, ◌+◌, ◌-◌, ◌≤◌, ◌<◌, ◌≡◌, ◌⊎◌, not, ◌||◌, ◌&&◌, ◌==◌, true, false, true≢false, Bool, List, length, get_or, refl, sym, ap, arith, inl, inr, leb, ◌∙◌, subst, eq-eqb}
use Rattle.std.proofs.Common.{eqb-true, leb-true}
use Rattle.std.proofs.lemmas.Bool.{and_parts, and_from, and_left, and_right, or_cases, or_left, or_right, cases_Bool, cases_eq}
use Rattle.std.proofs.Math.Bool.{and_comm}
use Rattle.s66_isa.specs.{BLOCK_LIMIT, Set, has, numbers_in, no_set}
use Rattle.s66_isa.proofs.Sets.{numbers_in-range}
use Rattle.s66_model.specs.{Problem}
use Rattle.s66_moments.specs.{IsNumber, HasNoRing, with_pair}
use Rattle.s66_facts.specs.{is_in, before_in, IsCovered, IsNear, AreNear}
use Rattle.s66_facts.proofs.Covered.{before-range}
use Rattle.s66_facts.proofs.Each.{same-bool, within-marked}

abbrev pub at : List Set → ℕ → Set
at marks n = get_or marks (n - 1) no_set

-- a mark more covers no less
pub covered-more : (b : Problem) (before : ℕ → ℕ → Bool) (old new : Set) (m n : ℕ) → ((k : ℕ) → has k (numbers_in old) ≡ true → has k (numbers_in new) ≡ true) →
    (has m (numbers_in old) ≡ true) ⊎ IsCovered b before old m n → (has m (numbers_in new) ≡ true) ⊎ IsCovered b before new m n
covered-more b before old new m n more (inl here) = inl (more m here)
covered-more b before old new m n more (inr (k, is_k, marked, first, covered)) = inr (k, is_k, more k marked, first, covered)

-- one that is marked now, or covered by what was marked before
pub covered-self : (b : Problem) (before : ℕ → ℕ → Bool) (old new : Set) (m n : ℕ) → ((k : ℕ) → has k (numbers_in old) ≡ true → has k (numbers_in new) ≡ true) →
    (has m (numbers_in new) ≡ true) ⊎ IsCovered b before old m n → (has m (numbers_in new) ≡ true) ⊎ IsCovered b before new m n
covered-self b before old new m n more (inl here) = inl here
covered-self b before old new m n more (inr (k, is_k, marked, first, covered)) = inr (k, is_k, more k marked, first, covered)

pub marked-more : {P Q R : Type 0} → P ⊎ R → (P → Q) → Q ⊎ R
marked-more (inl p) f = inl (f p)
marked-more (inr r) f = inr r

module _ (b : Problem) (few : length b.block ≤ BLOCK_LIMIT) (sooner old near : List Set) (count : length sooner ≡ length b.block) (count_old : length old ≡ length b.block)
    (more : (m n : ℕ) → before_in old m n ≡ true → before_in sooner m n ≡ true) (are : AreNear b old near) (n : ℕ) (is_n : IsNumber b n) where
  in-sooner : (m : ℕ) → IsNumber b m → before_in sooner m n ≡ has m (numbers_in (at sooner n))
  in-sooner m is_m = within-marked sooner m n is_m.0 (omega (arith, is_m.1, count)) is_n.0 (omega (arith, is_n.1, count))

  in-old : (m : ℕ) → IsNumber b m → before_in old m n ≡ has m (numbers_in (at old n))
  in-old m is_m = within-marked old m n is_m.0 (omega (arith, is_m.1, count_old)) is_n.0 (omega (arith, is_n.1, count_old))

  -- what is marked already is a number
  pub near-numbers : (k : ℕ) → has k (numbers_in (at near n)) ≡ true → IsNumber b k
  near-numbers k marked =
      let (low_k, high_k, low_n, high_n) = before-range old k n ((are.each n is_n).within k marked) in
      (low_k, omega (arith, high_k, count_old))

  module _ (own new : Set) (is_own : (m : ℕ) → has m (numbers_in own) ≡ (has m (numbers_in (at sooner n)) && not (has m (numbers_in (at old n)))))
      (olds : (k : ℕ) → has k (numbers_in (at near n)) ≡ true → has k (numbers_in new) ≡ true)
      (news : (k : ℕ) → has k (numbers_in new) ≡ true → (has k (numbers_in (at near n)) || has k (numbers_in own)) ≡ true)
      (numbers : (k : ℕ) → has k (numbers_in new) ≡ true → IsNumber b k)
      (covered : (m : ℕ) → IsNumber b m → has m (numbers_in own) ≡ true → (has m (numbers_in new) ≡ true) ⊎ IsCovered b (before_in sooner) new m n) where
    pub near-now : IsNear b (before_in sooner) new n
    near-now = record { within = within; enough = enough }
      where
        within : (m : ℕ) → has m (numbers_in new) ≡ true → before_in sooner m n ≡ true
        within m marked =
            elim (or_cases (has m (numbers_in (at near n))) (has m (numbers_in own)) (news m marked)) [
              | inl was ↦ more m n ((are.each n is_n).within m was)
              | inr its ↦ in-sooner m (numbers m marked) ∙ (and_parts (has m (numbers_in (at sooner n))) (not (has m (numbers_in (at old n)))) (sym (is_own m) ∙ its)).0
            ]

        enough : (m : ℕ) → IsNumber b m → before_in sooner m n ≡ true → (has m (numbers_in new) ≡ true) ⊎ IsCovered b (before_in sooner) new m n
        enough m is_m first =
            elim (cases_Bool (before_in old m n)) [
              | inl was ↦
                  elim ((are.each n is_n).enough m is_m was) [
                    | inl here ↦ inl (olds m here)
                    | inr (k, is_k, marked, between, by) ↦ inr (k, is_k, olds k marked, more m k between, by)
                  ]
              | inr off ↦
                  let fresh : not (has m (numbers_in (at old n))) ≡ true = rw (sym (in-old m is_m) ∙ off) refl in
                  covered m is_m (is_own m ∙ and_from (has m (numbers_in (at sooner n))) (not (has m (numbers_in (at old n)))) (sym (in-sooner m is_m) ∙ first) fresh)
            ]

-- of what is kept, if all of it decides the times
pub all-are : (b : Problem) (sooner near : List Set) → length sooner ≡ length b.block → near ≡ sooner → ((n : ℕ) → IsNumber b n → (m : ℕ) → 1 ≤ m → has m (numbers_in (at sooner n)) ≡ before_in sooner m n) → AreNear b sooner near
all-are b sooner near count is each =
    subst (AreNear b sooner) (sym is) (record {
      count = count;
      each = λ n is_n. record {
        within = λ m marked. sym (each n is_n m (numbers_in-range (at sooner n) m marked).0) ∙ marked;
        enough = λ m is_m first. inl (each n is_n m is_m.0 ∙ first);
      };
    })

-- WHAT STANDS AFTER, by what stands before

module _ (b : Problem) (before after : List Set) (count : length before ≡ length b.block) (count_after : length after ≡ length b.block) where
  pub turned-is : ((n : ℕ) → 1 ≤ n → n ≤ length before → (m : ℕ) → has m (numbers_in (at after n)) ≡ before_in before n m) → (m n : ℕ) → before_in after n m ≡ before_in before m n
  turned-is each m n =
      elim (cases_Bool (is_in before m)) [
        | inr off ↦
            and_left (is_in after n && is_in after m) (has n (numbers_in (at after m))) (and_right (is_in after n) (is_in after m) (same m ∙ off))
            ∙ sym (and_left (is_in before m && is_in before n) (has m (numbers_in (at before n))) (and_left (is_in before m) (is_in before n) off))
        | inl is_m ↦
            elim (cases_Bool (is_in before n)) [
              | inr off ↦
                  and_left (is_in after n && is_in after m) (has n (numbers_in (at after m))) (and_left (is_in after n) (is_in after m) (same n ∙ off))
                  ∙ sym (and_left (is_in before m && is_in before n) (has m (numbers_in (at before n))) (and_right (is_in before m) (is_in before n) off))
              | inl is_n ↦
                  let (low_m, high_m) = and_parts (leb 1 m) (leb m (length before)) is_m in
                  rw (same n ∙ is_n, same m ∙ is_m) (each m (leb-true 1 m low_m) (leb-true m (length before) high_m) n)
            ]
      ]
    where
      same : (k : ℕ) → is_in after k ≡ is_in before k
      same k = ap (λ c. leb 1 k && leb k c) (count_after ∙ sym count)

  -- a pair more
  pub turned-pair : (before2 after2 : List Set) (m n : ℕ) → ((i j : ℕ) → before_in after j i ≡ before_in before i j) → before_in before2 ≡ with_pair (before_in before) m n → before_in after2 ≡ with_pair (before_in after) n m → (i j : ℕ) → before_in after2 j i ≡ before_in before2 i j
  turned-pair before2 after2 m n turned is is_after i j =
      ap (λ f. f j i) is_after
      ∙ (rw (turned i j, turned n j, turned i m) (swap (before_in before i j) (j == n || before_in before n j) (i == m || before_in before i m))
      ∙ sym (ap (λ f. f i j) is))
    where
      swap : (x y z : Bool) → (x || y && z) ≡ (x || z && y)
      swap true y z = refl
      swap false y z = and_comm y z

-- THE NUMBERS THAT HAVE n MARKED, of the first ones

pub record IsTurned (before : List Set) (n count : ℕ) (all : Set) : Type 0 where
  pub right : (m : ℕ) → has m (numbers_in all) ≡ true → before_in before n m ≡ true
  pub whole : (m : ℕ) → m ≤ count → before_in before n m ≡ true → has m (numbers_in all) ≡ true

pub before-at : (before : List Set) (n position : ℕ) → (1 ≤ n) × (n ≤ length before) → position < length before → (own : Set) → own ≡ get_or before position no_set → before_in before n (position + 1) ≡ has n (numbers_in own)
before-at before n position is_n less own is =
    let e : position + 1 - 1 ≡ position = omega arith in
    within-marked before n (position + 1) is_n.0 is_n.1 (omega arith) (omega (arith, less)) ∙ (ap (λ i. has n (numbers_in (get_or before i no_set))) e ∙ ap (λ ms. has n (numbers_in ms)) (sym is))

module _ (before : List Set) (n : ℕ) where
  pub turned-none : (none : Set) → ((m : ℕ) → has m (numbers_in none) ≡ false) → IsTurned before n 0 none
  turned-none none off =
      record { right = λ m is. absurd (true≢false (sym is ∙ off m)); whole = λ m high first. absurd (omega (arith, high, (before-range before n m first).2)) }

  module _ (position : ℕ) (old : Set) where
    pub turned-more : (new : Set) → before_in before n (position + 1) ≡ true → ((m : ℕ) → has m (numbers_in new) ≡ (m == position + 1 || has m (numbers_in old))) → IsTurned before n position old → IsTurned before n (position + 1) new
    turned-more new here marked turned =
        record {
          right = λ m is. elim (or_cases (m == position + 1) (has m (numbers_in old)) (sym (marked m) ∙ is)) [
            | inl same ↦ subst (λ i. before_in before n i ≡ true) (sym (eqb-true m (position + 1) same)) here
            | inr was ↦ turned.right m was
          ];
          whole = λ m high first. marked m ∙ elim (cases_eq m (position + 1)) [
            | inl same ↦ or_left (m == position + 1) (has m (numbers_in old)) (eq-eqb m (position + 1) same)
            | inr differ ↦ or_right (m == position + 1) (has m (numbers_in old)) (turned.whole m (omega (arith, high, differ)) first)
          ];
        }

    pub turned-past : before_in before n (position + 1) ≡ false → IsTurned before n position old → IsTurned before n (position + 1) old
    turned-past off turned =
        record {
          right = turned.right;
          whole = λ m high first. elim (cases_eq m (position + 1)) [
            | inl same ↦ absurd (true≢false (sym (subst (λ i. before_in before n i ≡ true) same first) ∙ off))
            | inr differ ↦ turned.whole m (omega (arith, high, differ)) first
          ];
        }

    pub turned-all : length before ≤ position → IsTurned before n position old → (m : ℕ) → has m (numbers_in old) ≡ before_in before n m
    turned-all end turned m =
        same-bool (has m (numbers_in old)) (before_in before n m) (turned.right m) (λ first. turned.whole m (omega (arith, end, (before-range before n m first).3)) first)

-- WHAT NEAR ONES ASK of a pair more, and of those that stand after

pub apart-marked : (b : Problem) (marks : List Set) → length marks ≡ length b.block → HasNoRing b (before_in marks) → (n : ℕ) → IsNumber b n → has n (numbers_in (at marks n)) ≡ false
apart-marked b marks count none n is_n = sym (within-marked marks n n is_n.0 (omega (arith, is_n.1, count)) is_n.0 (omega (arith, is_n.1, count))) ∙ none n is_n

pub pair-more : (old new : List Set) (m n : ℕ) → before_in new ≡ with_pair (before_in old) m n → (i j : ℕ) → before_in old i j ≡ true → before_in new i j ≡ true
pair-more old new m n is i j first = ap (λ f. f i j) is ∙ or_left (before_in old i j) ((i == m || before_in old i m) && (j == n || before_in old n j)) first

pub turned-ring : (b : Problem) (before after : List Set) → ((m n : ℕ) → before_in after n m ≡ before_in before m n) → HasNoRing b (before_in before) → HasNoRing b (before_in after)
turned-ring b before after turned none n is_n = turned n n ∙ none n is_n

pub turned-near : (b : Problem) (before after : List Set) (near : Set) (n : ℕ) → ((i j : ℕ) → before_in after j i ≡ before_in before i j) → IsNear b (before_in after) near n → IsNear b (λ m k. before_in before k m) near n
turned-near b before after near n turned is =
    record {
      within = λ m marked. sym (turned n m) ∙ is.within m marked;
      enough = λ m is_m last. elim (is.enough m is_m (turned n m ∙ last)) [
        | inl here ↦ inl here
        | inr (k, is_k, marked, between, covered) ↦ inr (k, is_k, marked, sym (turned k m) ∙ between, covered)
      ];
    }
