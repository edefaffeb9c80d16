-- Of the points that let go at a time the one of the lowest number is found, if there is one.
use Rattle.std.proofs.Common.{ℕ, ◌≤◌, ◌≡◌, ◌⊎◌, ◌∙◌, ◌&&◌, ◌||◌, ◌==◌, not, nat_lt, Bool, true, false, min, List, [], ◌∷◌, refl, ap, sym, subst, arith, inl, inr, eq-eqb, ne_eqb}
use Rattle.std.proofs.lemmas.Bool.{and_from, and_left, and_right, cases_Bool, cond-true, cond-false, eqb-false, not_from_false, not_from_true, or_parts}
use Rattle.s66_isa.specs.{Reg, Among}
use Rattle.s66_isa.proofs.Lists.{cases_le}
use Rattle.s66_model.specs.{Point}
use Rattle.s66_why.specs.{Cause, Writes, Holder, lets_go, lower, lowest, holder, sooner, holder_or_else, soonest}

abbrev pub ArePositive : List Point → Type 0
ArePositive s = (q : Point) → Among q s → 1 ≤ q.number

pub record IsFound (cause : Cause) (t : ℕ) (s : List Point) : Type 0 where
  pub point : Point
  pub among : Among point s
  pub lets : lets_go cause t point ≡ true
  pub number : point.number ≡ lowest cause t s
  pub some : 1 ≤ point.number

pub record IsNone (cause : Cause) (t : ℕ) (s : List Point) : Type 0 where
  pub zero : lowest cause t s ≡ 0
  pub none : (q : Point) → Among q s → lets_go cause t q ≡ false

lower-none : (n m : ℕ) → m ≡ 0 → lower n m ≡ n
lower-none n m is = cond-true (m == 0) n (min n m) (eq-eqb m 0 is)

lower-some : (n m : ℕ) → 1 ≤ m → lower n m ≡ min n m
lower-some n m some = cond-false (m == 0) n (min n m) (ne_eqb m 0 (λ e. omega arith))

found-step : (cause : Cause) (t : ℕ) (q : Point) (s : List Point) (test : Bool) → lets_go cause t q ≡ test → 1 ≤ q.number →
    IsFound cause t s ⊎ IsNone cause t s → IsFound cause t (q ∷ s) ⊎ IsNone cause t (q ∷ s)
found-step cause t q s false is one (inl f) =
    inl (record { point = f.point; among = inr f.among; lets = f.lets; number = f.number ∙ sym (cond-false (lets_go cause t q) (lower q.number (lowest cause t s)) (lowest cause t s) is); some = f.some })
found-step cause t q s false is one (inr n) =
    inr (record {
      zero = cond-false (lets_go cause t q) (lower q.number (lowest cause t s)) (lowest cause t s) is ∙ n.zero;
      none = λ u among. elim among [ inl e ↦ subst (λ v. lets_go cause t v ≡ false) (sym e) is | inr past ↦ n.none u past ];
    })
found-step cause t q s true is one (inr n) =
    inl (record { point = q; among = inl refl; lets = is; number = sym (cond-true (lets_go cause t q) (lower q.number (lowest cause t s)) (lowest cause t s) is ∙ lower-none q.number (lowest cause t s) n.zero); some = one })
found-step cause t q s true is one (inl f) =
    let m : ℕ = lowest cause t s in
    let whole : lowest cause t (q ∷ s) ≡ min q.number m = cond-true (lets_go cause t q) (lower q.number m) m is ∙ lower-some q.number m (omega (arith, f.number, f.some)) in
    elim (cases_le q.number m) [
      | inl here ↦ let least : q.number ≡ min q.number m = omega arith in inl (record { point = q; among = inl refl; lets = is; number = least ∙ sym whole; some = one })
      | inr past ↦ let least : f.point.number ≡ min q.number m = omega (arith, f.number) in inl (record { point = f.point; among = inr f.among; lets = f.lets; number = least ∙ sym whole; some = f.some })
    ]

pub found-or-none : (cause : Cause) (t : ℕ) (s : List Point) → ArePositive s → IsFound cause t s ⊎ IsNone cause t s
found-or-none cause t [] positive = inr (record { zero = refl; none = λ q among. absurd among })
found-or-none cause t (q ∷ s) positive =
    found-step cause t q s (lets_go cause t q) refl (positive q (inl refl)) (found-or-none cause t s (λ u among. positive u (inr among)))

-- OF TWO HOLDERS

sooner-none : (a b : Holder) → b.number ≡ 0 → sooner a b ≡ a
sooner-none a b is =
    cond-false (not (b.number == 0) && (a.number == 0 || nat_lt b.number a.number)) b a
    (and_left (not (b.number == 0)) (a.number == 0 || nat_lt b.number a.number) (not_from_true (b.number == 0) (eq-eqb b.number 0 is)))

sooner-some : (a b : Holder) → 1 ≤ b.number → (sooner a b ≡ b) ⊎ ((sooner a b ≡ a) × (1 ≤ a.number))
sooner-some a b some =
    let first : Bool = not (b.number == 0) in
    let second : Bool = a.number == 0 || nat_lt b.number a.number in
    elim (cases_Bool second) [
      | inl holds ↦ inl (cond-true (first && second) b a (and_from first second (not_from_false (b.number == 0) (ne_eqb b.number 0 (λ e. omega arith))) holds))
      | inr fails ↦
          let apart : a.number ≡ 0 → ⊥ = eqb-false a.number 0 (or_parts (a.number == 0) (nat_lt b.number a.number) fails).0 in
          let least : 1 ≤ a.number = grind (arith, apart) in
          inr (cond-false (first && second) b a (and_right first second fails), least)
    ]

pub or_else-first : (a b : Holder) → 1 ≤ a.number → holder_or_else a b ≡ a
or_else-first a b some = cond-false (a.number == 0) b a (ne_eqb a.number 0 (λ e. omega arith))

pub or_else-second : (a b : Holder) → a.number ≡ 0 → holder_or_else a b ≡ b
or_else-second a b none = cond-true (a.number == 0) b a (eq-eqb a.number 0 none)

-- OF REGISTERS

pub record IsSoonest (t : ℕ) (s : List Point) (rs : List Reg) (h : Holder) : Type 0 where
  pub reg : Reg
  pub listed : Among reg rs
  pub found : IsFound (Writes reg) t s
  pub is : h ≡ holder (Writes reg) t s

soonest-some : (t : ℕ) (s : List Point) (rs : List Reg) (h : Holder) → IsSoonest t s rs h → 1 ≤ h.number
soonest-some t s rs h is = omega (arith, ap (λ (g : Holder). g.number) is.is, is.found.number, is.found.some)

-- no result in these registers is done then
abbrev pub NoneDone : ℕ → List Point → List Reg → Type 0
NoneDone t s rs = (r : Reg) → Among r rs → (q : Point) → Among q s → lets_go (Writes r) t q ≡ false

soonest-from : (t : ℕ) (s : List Point) (all rs : List Reg) (best : Holder) → ArePositive s → ((r : Reg) → Among r rs → Among r all) →
    (best.number ≡ 0) ⊎ IsSoonest t s all best → ((soonest best t s rs).number ≡ 0) × (best.number ≡ 0) × NoneDone t s rs ⊎ IsSoonest t s all (soonest best t s rs)
soonest-from t s all [] best positive within (inl none) = inl (none, none, λ r among. absurd among)
soonest-from t s all [] best positive within (inr is) = inr is
soonest-from t s all (r ∷ rs) best positive within good =
    let new : Holder = holder (Writes r) t s in
    let rest : (u : Reg) → Among u rs → Among u all = λ u among. within u (inr among) in
    elim (found-or-none (Writes r) t s positive) [
      | inl f ↦
          let here : IsSoonest t s all new = record { reg = r; listed = within r (inl refl); found = f; is = refl } in
          let next : IsSoonest t s all (sooner best new) =
          elim (sooner-some best new (omega (arith, f.number, f.some))) [
            | inl e ↦ subst (IsSoonest t s all) (sym e) here
            | inr both ↦
                elim good [
                  | inl none ↦ absurd (omega (arith, both.1, none))
                  | inr is ↦ subst (IsSoonest t s all) (sym both.0) is
                ]
          ] in
          elim (soonest-from t s all rs (sooner best new) positive rest (inr next)) [
            | inl none ↦ absurd (omega (arith, none.1, soonest-some t s all (sooner best new) next))
            | inr is ↦ inr is
          ]
      | inr n ↦
          let same : sooner best new ≡ best = sooner-none best new n.zero in
          elim (soonest-from t s all rs (sooner best new) positive rest (subst (λ h. (h.number ≡ 0) ⊎ IsSoonest t s all h) (sym same) good)) [
            | inl none ↦ inl (none.0, ap (λ (h : Holder). h.number) (sym same) ∙ none.1, λ u among. elim among [ inl e ↦ subst (λ v. (q : Point) → Among q s → lets_go (Writes v) t q ≡ false) (sym e) n.none | inr past ↦ none.2 u past ])
            | inr is ↦ inr is
          ]
    ]

pub soonest-is : (t : ℕ) (s : List Point) (rs : List Reg) (best : Holder) → best.number ≡ 0 → ArePositive s →
    ((soonest best t s rs).number ≡ 0) × (best.number ≡ 0) × NoneDone t s rs ⊎ IsSoonest t s rs (soonest best t s rs)
soonest-is t s rs best none positive = soonest-from t s rs rs best positive (λ r among. among) (inl none)
