-- A test by which no number stands before itself has places, and may have a pair more that is not turned.
use Rattle.std.proofs.Common.{ℕ, ◌+◌, ◌≤◌, ◌<◌, ◌≡◌, ◌≢◌, ◌⊎◌, Bool, true, false, true≢false, cond, ◌||◌, ◌&&◌, List, [], ◌∷◌, length, refl, sym, arith, inl, inr, eqb, ◌∙◌, subst, eqb-true}
use Rattle.std.proofs.lemmas.Bool.{cond-true, cond-false, and_parts, and_from, or_cases, or_left, or_right, cases_Bool}
use Rattle.s66_isa.specs.{tally, Among, numbers}
use Rattle.s66_isa.proofs.Lists.{rising-among, among-rising}
use Rattle.s66_model.specs.{Problem}
use Rattle.s66_model.proofs.Beginnings.{length-rising}
use Rattle.s66_model.proofs.LegalOrders.{tally-le}
use Rattle.s66_moments.specs.{IsNumber, IsPlaced, with_pair, IsTransitive, HasNoRing, place_by}

-- COUNTS

tally-one : (test other : ℕ → Bool) (n : ℕ) → (test n ≡ true → other n ≡ true) → cond {A = ℕ} (test n) 1 0 ≤ cond {A = ℕ} (other n) 1 0
tally-one test other n h =
    elim (cases_Bool (test n)) [
      | inl is ↦ omega (arith, cond-true {A = ℕ} (test n) 1 0 is, cond-true {A = ℕ} (other n) 1 0 (h is))
      | inr off ↦ omega (arith, cond-false {A = ℕ} (test n) 1 0 off)
    ]

-- one doesn't pass
tally-but_one : (test : ℕ → Bool) (k : ℕ) (ns : List ℕ) → Among k ns → test k ≡ false → tally test ns + 1 ≤ length ns
tally-but_one test k [] among off = absurd among
tally-but_one test k (n ∷ ns) among off =
    elim among [
      | inl here ↦ omega (arith, tally-le test ns, cond-false {A = ℕ} (test n) 1 0 (subst (λ x. test x ≡ false) here off))
      | inr past ↦ omega (arith, tally-but_one test k ns past off, tally-one test (λ _. true) n (λ _. refl))
    ]

tally-within : (test other : ℕ → Bool) (ns : List ℕ) → ((n : ℕ) → Among n ns → test n ≡ true → other n ≡ true) → tally test ns ≤ tally other ns
tally-within test other [] each = omega arith
tally-within test other (n ∷ ns) each =
    omega (arith, tally-one test other n (each n (inl refl)), tally-within test other ns (λ m among. each m (inr among)))

-- one passes the other alone
tally-less : (test other : ℕ → Bool) (k : ℕ) (ns : List ℕ) → ((n : ℕ) → Among n ns → test n ≡ true → other n ≡ true) → Among k ns → test k ≡ false → other k ≡ true → tally test ns + 1 ≤ tally other ns
tally-less test other k [] each among off is = absurd among
tally-less test other k (n ∷ ns) each among off is =
    elim among [
      | inl here ↦
          omega (
            arith,
            tally-within test other ns (λ m in_ns. each m (inr in_ns)),
            cond-false {A = ℕ} (test n) 1 0 (subst (λ x. test x ≡ false) here off),
            cond-true {A = ℕ} (other n) 1 0 (subst (λ x. other x ≡ true) here is),
          )
      | inr past ↦ omega (arith, tally-one test other n (each n (inl refl)), tally-less test other k ns (λ m in_ns. each m (inr in_ns)) past off is)
    ]

-- PLACES

pub number-among : (b : Problem) (n : ℕ) → IsNumber b n → Among n (numbers b.block)
number-among b n (low, high) = rising-among (length b.block) 1 n low (omega (arith, high))

pub among-number : (b : Problem) (n : ℕ) → Among n (numbers b.block) → IsNumber b n
among-number b n among = (let (low, high) = among-rising (length b.block) 1 n among in (low, omega (arith, high)))

module _ (b : Problem) (before : ℕ → ℕ → Bool) where
  pub places : IsTransitive b before → HasNoRing b before → IsPlaced b before (place_by b before)
  places through none = (within, rises)
    where
      within : (n : ℕ) → IsNumber b n → IsNumber b (place_by b before n)
      within n is =
          (omega arith, omega (arith, tally-but_one (λ m. before m n) n (numbers b.block) (number-among b n is) (none n is), length-rising (length b.block) 1))

      rises : (m n : ℕ) → IsNumber b m → IsNumber b n → before m n ≡ true → place_by b before m < place_by b before n
      rises m n is_m is_n first =
          omega (arith, tally-less (λ k. before k m) (λ k. before k n) m (numbers b.block) (λ k among then. through k m n (among-number b k among) is_m is_n then first) (number-among b m is_m) (none m is_m) first)

  -- A PAIR MORE

  module _ (j k : ℕ) (is_j : IsNumber b j) (is_k : IsNumber b k) (through : IsTransitive b before) where
    abbrev after : ℕ → ℕ → Bool
    after = with_pair before j k

    -- it is j or stands before j
    abbrev to_j : ℕ → Bool
    to_j m = eqb m j || before m j

    abbrev from_k : ℕ → Bool
    from_k n = eqb n k || before k n

    pair-cases : (m n : ℕ) → after m n ≡ true → (before m n ≡ true) ⊎ ((to_j m ≡ true) × (from_k n ≡ true))
    pair-cases m n h =
        elim (or_cases (before m n) (to_j m && from_k n) h) [
          | inl old ↦ inl old
          | inr more ↦ inr (and_parts (to_j m) (from_k n) more)
        ]

    earlier-to_j : (m n : ℕ) → IsNumber b m → IsNumber b n → before m n ≡ true → to_j n ≡ true → to_j m ≡ true
    earlier-to_j m n is_m is_n first then =
        or_right (eqb m j) (before m j) (elim (or_cases (eqb n j) (before n j) then) [
          | inl here ↦ subst (λ x. before m x ≡ true) (eqb-true n j here) first
          | inr past ↦ through m n j is_m is_n is_j first past
        ])

    later-from_k : (m n : ℕ) → IsNumber b m → IsNumber b n → from_k m ≡ true → before m n ≡ true → from_k n ≡ true
    later-from_k m n is_m is_n first then =
        or_right (eqb n k) (before k n) (elim (or_cases (eqb m k) (before k m) first) [
          | inl here ↦ subst (λ x. before x n ≡ true) (eqb-true m k here) then
          | inr past ↦ through k m n is_k is_m is_n past then
        ])

    by-pair : (m n : ℕ) → to_j m ≡ true → from_k n ≡ true → after m n ≡ true
    by-pair m n first second = or_right (before m n) (to_j m && from_k n) (and_from (to_j m) (from_k n) first second)

    pub pair-transitive : IsTransitive b after
    pair-transitive m i n is_m is_i is_n first second =
        elim (pair-cases m i first) [
          | inl old ↦
              elim (pair-cases i n second) [
                | inl old2 ↦ or_left (before m n) (to_j m && from_k n) (through m i n is_m is_i is_n old old2)
                | inr new ↦ by-pair m n (earlier-to_j m i is_m is_i old new.0) new.1
              ]
          | inr new ↦
              elim (pair-cases i n second) [
                | inl old ↦ by-pair m n new.0 (later-from_k i n is_i is_n new.1 old)
                | inr new2 ↦ by-pair m n new.0 new2.1
              ]
        ]

    -- a number from k on and up to j would put k before j
    pub pair-no_ring : HasNoRing b before → j ≢ k → before k j ≡ false → HasNoRing b after
    pair-no_ring none differ off n is =
        elim (cases_Bool (after n n)) [
          | inl ring ↦
              elim (pair-cases n n ring) [
                | inl old ↦ absurd (true≢false (sym old ∙ none n is))
                | inr new ↦ absurd (turned new.0 new.1)
              ]
          | inr none2 ↦ none2
        ]
      where
        turned : to_j n ≡ true → from_k n ≡ true → ⊥
        turned first second =
            elim (or_cases (eqb n k) (before k n) second) [
              | inl at_k ↦
                  elim (or_cases (eqb n j) (before n j) first) [
                    | inl at_j ↦ differ (sym (eqb-true n j at_j) ∙ eqb-true n k at_k)
                    | inr past ↦ true≢false (sym (subst (λ x. before x j ≡ true) (eqb-true n k at_k) past) ∙ off)
                  ]
              | inr after_k ↦
                  elim (or_cases (eqb n j) (before n j) first) [
                    | inl at_j ↦ true≢false (sym (subst (λ x. before k x ≡ true) (eqb-true n j at_j) after_k) ∙ off)
                    | inr past ↦ true≢false (sym (through k n j is_k is is_j after_k past) ∙ off)
                  ]
            ]
