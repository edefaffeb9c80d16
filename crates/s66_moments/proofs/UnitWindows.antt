-- The units of a kind do no more work between two times than there are units.
use Rattle.std.proofs.Common.{ℕ, zero, suc, ◌+◌, ◌-◌, ◌*◌, ◌≤◌, ◌<◌, ◌≡◌, Bool, true, false, cond, ◌&&◌, ◌||◌, max, min, List, [], ◌∷◌, refl, ap, arith, inl, inr, ltb, leb, eqb, subst, ◌∙◌, lt-ltb}
use Rattle.std.proofs.Common.{le-leb, eqb-true, eq-eqb}
use Rattle.std.proofs.lemmas.Bool.{cond-true, cond-false, cases_Bool, cases_lt, lt-leb, and_left}
use Rattle.s66_isa.specs.{Kind, weigh, tally, has, Among, same_kind}
use Rattle.s66_isa.proofs.Lists.{le-weigh}
use Rattle.s66_model.specs.{Problem, Point, row_at, copies, point_of, points_after, busy_at}
use Rattle.s66_model.proofs.LegalOrders.{at-most-one}
use Rattle.s66_model.proofs.LoadBound.{fewer, at_issue-lt}
use Rattle.s66_model.proofs.PointTimes.{point_of-row}

-- AT A TIME

-- it holds a unit of the kind from its issue on, and until it is free
abbrev pub works_at : Kind → ℕ → Point → Bool
works_at kind t p = same_kind p.row.kind kind && (leb p.issue t && ltb t p.free)

works-busy_one : (kind : Kind) (t : ℕ) (p : Point) → cond {A = ℕ} (works_at kind t p) 1 0 ≤ cond (busy_at kind t p) 1 0
works-busy_one kind t p = by (same_kind p.row.kind kind) (leb p.issue t) (ltb t p.free)
  where
    by : (k i f : Bool) → cond {A = ℕ} (k && (i && f)) 1 0 ≤ cond (k && f) 1 0
    by false i f = omega arith
    by true false f = omega arith
    by true true f = omega arith

works-busy : (kind : Kind) (t : ℕ) (s : List Point) → tally (works_at kind t) s ≤ tally (busy_at kind t) s
works-busy kind t [] = omega arith
works-busy kind t (p ∷ s) = omega (arith, works-busy_one kind t p, works-busy kind t s)

works-before : (kind : Kind) (t : ℕ) (p : Point) → t < p.issue → cond {A = ℕ} (works_at kind t p) 1 0 ≡ 0
works-before kind t p lt = by (same_kind p.row.kind kind) (leb p.issue t) (ltb t p.free) (lt-leb p.issue t lt)
  where
    by : (k i f : Bool) → i ≡ false → cond {A = ℕ} (k && (i && f)) 1 0 ≡ 0
    by false i f e = refl
    by true false f e = refl
    by true true f e = absurd cc

works-other : (kind : Kind) (t : ℕ) (p : Point) → same_kind p.row.kind kind ≡ false → cond {A = ℕ} (works_at kind t p) 1 0 ≡ 0
works-other kind t p other = cond-false {A = ℕ} (works_at kind t p) 1 0 (and_left (same_kind p.row.kind kind) (leb p.issue t && ltb t p.free) other)

module _ (b : Problem) (kind : Kind) where
  works-step : (s : List Point) (n t : ℕ) → tally (works_at kind t) s ≤ copies b kind → tally (works_at kind t) (point_of b s n ∷ s) ≤ copies b kind
  works-step s n t h =
      let p = point_of b s n in
      elim (cases_Bool (same_kind (row_at b n).kind kind)) [
        | inl is ↦
            elim (cases_lt t p.issue) [
              | inl before ↦ omega (arith, works-before kind t p before)
              | inr after ↦
                  let later : p.issue + (t - p.issue) ≡ t = omega arith in
                  let less : tally (busy_at kind t) s ≤ tally (busy_at kind p.issue) s = subst (λ u. tally (busy_at kind u) s ≤ tally (busy_at kind p.issue) s) later (fewer kind p.issue (t - p.issue) s) in
                  omega (arith, works-busy kind t s, less, at_issue-lt b kind s n is, at-most-one (works_at kind t p))
            ]
        | inr is ↦ omega (arith, works-other kind t p (rw (point_of-row b s n) is))
      ]

  -- at no time more work than there are
  pub works-run : (s : List Point) (ns : List ℕ) (t : ℕ) → tally (works_at kind t) s ≤ copies b kind → tally (works_at kind t) (points_after b s ns) ≤ copies b kind
  works-run s [] t h = h
  works-run s (n ∷ ns) t h = works-run (point_of b s n ∷ s) ns t (works-step s n t h)

-- BETWEEN TWO TIMES

-- how long it holds a unit of the kind from a on and before z
abbrev pub work_between : Kind → ℕ → ℕ → Point → ℕ
work_between kind a z p = cond (same_kind p.row.kind kind) (min p.free z - max p.issue a) 0

between-step : (kind : Kind) (a d : ℕ) (p : Point) → work_between kind a (a + suc d) p ≤ work_between kind a (a + d) p + cond (works_at kind (a + d) p) 1 0
between-step kind a d p =
    elim (cases_Bool (same_kind p.row.kind kind)) [
      | inl is ↦
          elim (cases_lt (a + d) p.issue) [
            | inl before ↦ rw is (omega arith)
            | inr after ↦
                elim (cases_lt (a + d) p.free) [
                  | inl busy ↦ rw (is, le-leb p.issue (a + d) after, lt-ltb (a + d) p.free busy) (omega arith)
                  | inr free ↦ rw is (omega arith)
                ]
          ]
      | inr is ↦ rw is (omega arith)
    ]

between-steps : (kind : Kind) (a d : ℕ) (s : List Point) → weigh (work_between kind a (a + suc d)) s ≤ weigh (work_between kind a (a + d)) s + tally (works_at kind (a + d)) s
between-steps kind a d [] = omega arith
between-steps kind a d (p ∷ s) = omega (arith, between-step kind a d p, between-steps kind a d s)

between-none_one : (kind : Kind) (a : ℕ) (p : Point) → work_between kind a (a + 0) p ≡ 0
between-none_one kind a p =
    elim (cases_Bool (same_kind p.row.kind kind)) [
      | inl is ↦ rw is (omega arith)
      | inr is ↦ rw is refl
    ]

between-none : (kind : Kind) (a : ℕ) (s : List Point) → weigh (work_between kind a (a + 0)) s ≡ 0
between-none kind a [] = refl
between-none kind a (p ∷ s) = omega (arith, between-none_one kind a p, between-none kind a s)

one-more : (x c d : ℕ) → x ≤ c * d + c → x ≤ c * suc d
one-more x c d h = grind arith

pub between-le : (kind : Kind) (s : List Point) (c : ℕ) → ((t : ℕ) → tally (works_at kind t) s ≤ c) → (a d : ℕ) → weigh (work_between kind a (a + d)) s ≤ c * d
between-le kind s c most a zero = omega (arith, between-none kind a s)
between-le kind s c most a (suc d) =
    one-more (weigh (work_between kind a (a + suc d)) s) c d (omega (arith, between-steps kind a d s, between-le kind s c most a d, most (a + d)))

-- WHAT SOME NUMBERS DO OF IT

either_one : (e h : Bool) (g : ℕ) → (e ≡ true → h ≡ false) → cond e g 0 + cond h g 0 ≤ cond {A = ℕ} (e || h) g 0
either_one true true g one = absurd (let no = one refl in cc)
either_one _ _ g one = omega arith

pub either : (g : Point → ℕ) (n : ℕ) (ns : List ℕ) (s : List Point) → has n ns ≡ false → weigh (λ (p : Point). cond (eqb p.number n) (g p) 0) s + weigh (λ (p : Point). cond (has p.number ns) (g p) 0) s ≤ weigh (λ (p : Point). cond (has p.number (n ∷ ns)) (g p) 0) s
either g n ns [] new = omega arith
either g n ns (p ∷ s) new =
    omega (arith, either g n ns s new, either_one (eqb p.number n) (has p.number ns) (g p) (λ is. ap (λ k. has k ns) (eqb-true p.number n is) ∙ new))

pub has-one : (g : Point → ℕ) (p : Point) (s : List Point) → Among p s → g p ≤ weigh (λ (q : Point). cond (eqb q.number p.number) (g q) 0) s
has-one g p s among =
    omega (arith, le-weigh (λ (q : Point). cond (eqb q.number p.number) (g q) 0) p s among, cond-true {A = ℕ} (eqb p.number p.number) (g p) 0 (eq-eqb p.number p.number refl))

pub some-le : (g : Point → ℕ) (ns : List ℕ) (s : List Point) → weigh (λ (p : Point). cond (has p.number ns) (g p) 0) s ≤ weigh g s
some-le g ns [] = omega arith
some-le g ns (p ∷ s) = omega (arith, some-le g ns s, one (has p.number ns) (g p))
  where
    one : (h : Bool) (k : ℕ) → cond h k 0 ≤ k
    one true k = omega arith
    one false k = omega arith
