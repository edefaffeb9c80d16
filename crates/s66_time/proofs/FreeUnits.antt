-- The words of the units of a kind: as many of the greatest free times as there are copies.
use Rattle.std.proofs.Common.{ℕ, zero, suc, ◌+◌, ◌-◌, ◌≤◌, ◌<◌, ◌≡◌, cond, max, min, List, [], ◌∷◌, length, take, drop, set, get_or, refl, ap, arith, inl, inr, ltb, length-drop, subst, get_or-drop}
use Rattle.std.proofs.Common.{le-ltb, lt-ltb}
use Rattle.std.proofs.lemmas.List.{take_more}
use Rattle.std.proofs.lemmas.Bool.{cond-true, cond-false, cases_Bool, cases_lt}
use Rattle.s66_isa.specs.{greatest, weigh, tally, same_kind, Kind}
use Rattle.s66_isa.proofs.Lists.{cases_le, tally-set, weigh-append}
use Rattle.s66_model.specs.{Point, total, busy_at, rest_busy}
use Rattle.s66_model.proofs.LoadBound.{fewer, all_drained}
use Rattle.s66_model.proofs.LegalOrders.{at-most-one}

-- WORDS THAT ARE LATER

pub later_one : (t x : ℕ) → t < x → ◌≡◌ {A = ℕ} (cond (ltb t x) 1 0) 1
later_one t x lt = cond-true {A = ℕ} (ltb t x) 1 0 (lt-ltb t x lt)

pub past_zero : (t x : ℕ) → x ≤ t → ◌≡◌ {A = ℕ} (cond (ltb t x) 1 0) 0
past_zero t x le = cond-false {A = ℕ} (ltb t x) 1 0 (le-ltb t x le)

pub later-le : (t : ℕ) (xs : List ℕ) → tally (λ w. ltb t w) xs ≤ length xs
later-le t [] = omega arith
later-le t (x ∷ xs) = omega (arith, later-le t xs, at-most-one (ltb t x))

pub all-later : (t : ℕ) (xs : List ℕ) → ((i : ℕ) → i < length xs → t < get_or xs i 0) → tally (λ w. ltb t w) xs ≡ length xs
all-later t [] h = refl
all-later t (x ∷ xs) h =
    omega (arith, later_one t x (h 0 (omega arith)), all-later t xs (λ i lt. h (suc i) (omega arith)))

one-past : (t : ℕ) (xs : List ℕ) (i : ℕ) → i < length xs → get_or xs i 0 ≤ t → tally (λ w. ltb t w) xs < length xs
one-past t [] i lt h = absurd (omega arith)
one-past t (x ∷ xs) zero lt h = omega (arith, past_zero t x h, later-le t xs)
one-past t (x ∷ xs) (suc i) lt h = omega (arith, one-past t xs i (omega arith) h, at-most-one (ltb t x))

-- Among the words xs, one of which is the least, a unit is free at t exactly when that one is past.
pub record IsLeast (xs : List ℕ) (i : ℕ) : Type 0 where
  pub within : i < length xs
  pub least : (j : ℕ) → j < length xs → get_or xs i 0 ≤ get_or xs j 0

free-past : (t : ℕ) (xs : List ℕ) (i : ℕ) → IsLeast xs i → tally (λ w. ltb t w) xs < length xs → get_or xs i 0 ≤ t
free-past t xs i l h =
    elim (cases_le (get_or xs i 0) t) [
      | inl le ↦ le
      | inr lt ↦ absurd (omega (arith, all-later t xs (λ j k. omega (arith, l.least j k))))
    ]

-- THE COUNT

-- at each time as many words are later as units are busy, if there are as many
abbrev pub Counts : ℕ → List ℕ → (ℕ → ℕ) → Type 0
Counts c xs busy = (t : ℕ) → tally (λ w. ltb t w) xs ≡ min c (busy t)

pub count-free : (c : ℕ) (xs : List ℕ) (busy : ℕ → ℕ) (i t : ℕ) → length xs ≡ c → Counts c xs busy → IsLeast xs i → get_or xs i 0 ≤ t → busy t < c
count-free c xs busy i t len h l le = omega (arith, h t, one-past t xs i l.within le)

pub count-least : (c : ℕ) (xs : List ℕ) (busy : ℕ → ℕ) (i t : ℕ) → length xs ≡ c → Counts c xs busy → IsLeast xs i → busy t < c → get_or xs i 0 ≤ t
count-least c xs busy i t len h l lt = free-past t xs i l (omega (arith, h t))

-- the least word takes a free time that is no sooner
pub count-push : (c : ℕ) (xs : List ℕ) (busy more : ℕ → ℕ) (i f : ℕ) → length xs ≡ c → Counts c xs busy → IsLeast xs i → get_or xs i 0 ≤ f →
    ((t : ℕ) → more t ≡ cond (ltb t f) 1 0 + busy t) → Counts c (set xs i f) more
count-push c xs busy more i f len h l late is t =
    let one = tally-set (λ w. ltb t w) xs i f 0 l.within in
    elim (cases_le (get_or xs i 0) t) [
      | inl le ↦ omega (arith, h t, is t, one, past_zero t (get_or xs i 0) le, one-past t xs i l.within le, at-most-one (ltb t f))
      | inr lt ↦
          omega (arith, h t, is t, one, later_one t (get_or xs i 0) lt, later_one t f (omega arith), all-later t xs (λ j k. omega (arith, l.least j k)))
    ]

-- THE WORK THAT IS LEFT

rest_one : (t x : ℕ) → x - t ≡ (x - (t + 1)) + cond (ltb t x) 1 0
rest_one t x =
    elim (cases_lt t x) [
      | inl lt ↦ omega (arith, later_one t x lt)
      | inr le ↦ omega (arith, past_zero t x le)
    ]

rest-words : (t : ℕ) (xs : List ℕ) → weigh (λ w. w - t) xs ≡ weigh (λ w. w - (t + 1)) xs + tally (λ w. ltb t w) xs
rest-words t [] = refl
rest-words t (x ∷ xs) = omega (arith, rest_one t x, rest-words t xs)

rest_point : (kind : Kind) (t : ℕ) (p : Point) → rest_busy kind t p ≡ rest_busy kind (t + 1) p + cond (busy_at kind t p) 1 0
rest_point kind t p =
    elim (cases_Bool (same_kind p.row.kind kind)) [
      | inl is ↦ rw is (rest_one t p.free)
      | inr is ↦ rw is refl
    ]

rest-points : (kind : Kind) (t : ℕ) (s : List Point) → weigh (rest_busy kind t) s ≡ weigh (rest_busy kind (t + 1)) s + tally (busy_at kind t) s
rest-points kind t [] = refl
rest-points kind t (p ∷ s) = omega (arith, rest_point kind t p, rest-points kind t s)

none-left : (t : ℕ) (xs : List ℕ) → greatest (λ w. w) xs ≤ t → weigh (λ w. w - t) xs ≡ 0
none-left t [] h = refl
none-left t (x ∷ xs) h = omega (arith, none-left t xs (omega arith))

rest-down : (kind : Kind) (xs : List ℕ) (s : List Point) (fuel t : ℕ) → ((u : ℕ) → t ≤ u → tally (λ w. ltb u w) xs ≡ tally (busy_at kind u) s) →
    greatest (λ w. w) xs ≤ t + fuel → total s ≤ t + fuel → weigh (λ w. w - t) xs ≡ weigh (rest_busy kind t) s
rest-down kind xs s zero t h a b = omega (arith, none-left t xs (omega arith), all_drained kind t s (omega arith))
rest-down kind xs s (suc fuel) t h a b =
    omega (arith, rest-words t xs, rest-points kind t s, h t (omega arith), rest-down kind xs s fuel (t + 1) (λ u le. h u (omega arith)) (omega arith) (omega arith))

-- if no more units are busy than there are copies, the words give the work that is left
pub rest-same : (kind : Kind) (c : ℕ) (xs : List ℕ) (s : List Point) (t : ℕ) → Counts c xs (λ u. tally (busy_at kind u) s) → tally (busy_at kind t) s ≤ c →
    weigh (λ w. w - t) xs ≡ weigh (rest_busy kind t) s
rest-same kind c xs s t h fits =
    rest-down kind xs s (max (greatest (λ w. w) xs) (total s)) t (λ u le. omega (arith, h u, fewer-later u le)) (omega arith) (omega arith)
  where
    fewer-later : (u : ℕ) → t ≤ u → tally (busy_at kind u) s ≤ tally (busy_at kind t) s
    fewer-later u le =
        let e : t + (u - t) ≡ u = omega arith in
        subst (λ k. tally (busy_at kind k) s ≤ tally (busy_at kind t) s) e (fewer kind t (u - t) s)

-- THE LOOP OVER THE UNITS OF A KIND

-- one more of the words from a place on
pub weigh-more : (f : ℕ → ℕ) (xs : List ℕ) (first i : ℕ) → first + i < length xs → weigh f (take (i + 1) (drop first xs)) ≡ weigh f (take i (drop first xs)) + f (get_or xs (first + i) 0)
weigh-more f xs first i lt =
    omega (
      arith,
      ap (weigh f) (take_more (drop first xs) i 0 (omega (arith, length-drop first xs))),
      weigh-append f (take i (drop first xs)) (get_or (drop first xs) i 0 ∷ []),
      ap f (get_or-drop first xs i 0),
    )
