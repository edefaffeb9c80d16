-- The load of a kind of unit is a lower bound.
use Rattle.std.proofs.Common.{ℕ, zero, suc, ◌+◌, ◌-◌, ◌*◌, ◌/◌, ◌≤◌, ◌<◌, ◌≡◌, true, false, cond, List, [], ◌∷◌, ◌++◌, refl, sym, ap, arith, inl, inr, ltb, ◌∙◌, subst, eqb-true, lt-ltb, le-ltb}
use Rattle.std.proofs.Common.{div-lt_iff_lt-mul}
use Rattle.std.proofs.lemmas.Bool.{cond-false, cases_Bool, cases_lt, and_left}
use Rattle.s66_isa.specs.{Kind, Boolean, Shift, Add, LongAdd, Multiply, Divide, Increment, weigh, tally, Row, same_kind, kind_number}
use Rattle.s66_model.specs.{Problem, Point, row_at, copies, point_of, points_after, points_of, next, total, total_of, busy_at, point, IsBeginning, Completes, sum_remaining, rest_busy, work_of}
use Rattle.s66_model.specs.{unit_work, over, load}
use Rattle.s66_model.proofs.LegalOrders.{at-most-one, sum_remaining-is_rest}
use Rattle.s66_model.proofs.Issue.{some_copies}
use Rattle.s66_model.proofs.PointTimes.{good-at, points_after-append, next-grows, next-le-issue, issue-le-start, hold-le-free, point_of-row, issue-unit}

-- KINDS

kind_of_number : ℕ → Kind
kind_of_number zero = Boolean
kind_of_number (suc zero) = Shift
kind_of_number (suc (suc zero)) = Add
kind_of_number (suc (suc (suc zero))) = LongAdd
kind_of_number (suc (suc (suc (suc zero)))) = Multiply
kind_of_number (suc (suc (suc (suc (suc zero))))) = Divide
kind_of_number (suc (suc (suc (suc (suc (suc n)))))) = Increment

kind-back : (k : Kind) → kind_of_number (kind_number k) ≡ k
unfolding kind_of_number
kind-back Boolean = refl
kind-back Shift = refl
kind-back Add = refl
kind-back LongAdd = refl
kind-back Multiply = refl
kind-back Divide = refl
kind-back Increment = refl

pub same_kind-true : (a b : Kind) → same_kind a b ≡ true → a ≡ b
same_kind-true a b h = sym (kind-back a) ∙ ap kind_of_number (eqb-true (kind_number a) (kind_number b) h) ∙ kind-back b

-- WHAT TIME DOES TO THE POINTS

times-le : (x y d : ℕ) → x ≤ y → x * d ≤ y * d
times-le x y d h = grind arith

drain_one : (kind : Kind) (t d : ℕ) (p : Point) → rest_busy kind t p ≤ rest_busy kind (t + d) p + cond (busy_at kind t p) 1 0 * d
drain_one kind t d p =
    elim (cases_Bool (same_kind p.row.kind kind)) [
      | inl is ↦
          elim (cases_lt t p.free) [
            | inl lt ↦ rw (is, lt-ltb t p.free lt) (omega arith)
            | inr le ↦ rw (is, le-ltb t p.free le) (omega arith)
          ]
      | inr is ↦ rw is (omega arith)
    ]

-- in d cycles each unit that is busy at t does d at the most
drain : (kind : Kind) (t d : ℕ) (s : List Point) → weigh (rest_busy kind t) s ≤ weigh (rest_busy kind (t + d)) s + tally (busy_at kind t) s * d
drain kind t d [] = omega arith
drain kind t d (p ∷ s) = omega (arith, drain_one kind t d p, drain kind t d s)

not_busy : (kind : Kind) (t : ℕ) (p : Point) → same_kind p.row.kind kind ≡ false → ◌≡◌ {A = ℕ} (cond (busy_at kind t p) 1 0) 0
not_busy kind t p is = cond-false {A = ℕ} (busy_at kind t p) 1 0 (and_left (same_kind p.row.kind kind) (ltb t p.free) is)

fewer_one : (kind : Kind) (t d : ℕ) (p : Point) → cond (busy_at kind (t + d) p) 1 0 ≤ cond (busy_at kind t p) 1 0
fewer_one kind t d p =
    elim (cases_Bool (same_kind p.row.kind kind)) [
      | inl is ↦
          elim (cases_lt t p.free) [
            | inl lt ↦ rw (is, lt-ltb t p.free lt) (at-most-one (ltb (t + d) p.free))
            | inr le ↦ rw (is, le-ltb t p.free le, le-ltb (t + d) p.free (omega arith)) (omega arith)
          ]
      | inr is ↦ rw is (omega arith)
    ]

pub fewer : (kind : Kind) (t d : ℕ) (s : List Point) → tally (busy_at kind (t + d)) s ≤ tally (busy_at kind t) s
fewer kind t d [] = omega arith
fewer kind t d (p ∷ s) = omega (arith, fewer_one kind t d p, fewer kind t d s)

pub all_drained : (kind : Kind) (t : ℕ) (s : List Point) → total s ≤ t → weigh (rest_busy kind t) s ≡ 0
all_drained kind t [] h = refl
all_drained kind t (p ∷ s) h =
    elim (cases_Bool (same_kind p.row.kind kind)) [
      | inl is ↦ rw is (omega (arith, all_drained kind t s (omega arith)))
      | inr is ↦ rw is (omega (arith, all_drained kind t s (omega arith)))
    ]

-- WHAT AN INSTRUCTION BRINGS, AND THE TIME THAT IT LETS PASS: at x the units have rest to do, a cycles later mid, and e cycles later rest2

step-own : (x a e c w rest rest2 mid at_x at_issue : ℕ) → rest ≤ mid + at_x * a → mid ≤ rest2 + at_issue * e → at_x ≤ c → at_issue + 1 ≤ c → rest + w + c * x ≤ rest2 + (w - e) + c * (x + a + e)
step-own x a e c w rest rest2 mid at_x at_issue h1 h2 h3 h4 =
    omega (arith, times-le at_x c a h3, times-le (at_issue + 1) c e h4)

step-other : (x a e c rest rest2 mid at_x at_issue : ℕ) → rest ≤ mid + at_x * a → mid ≤ rest2 + at_issue * e → at_x ≤ c → at_issue ≤ c → rest + c * x ≤ rest2 + c * (x + a + e)
step-other x a e c rest rest2 mid at_x at_issue h1 h2 h3 h4 =
    omega (arith, times-le at_x c a h3, times-le at_issue c e h4)

step-end : (x d end c rest at_x : ℕ) → end ≡ x + d → rest ≤ at_x * d → at_x ≤ c → rest + 0 + c * x ≤ c * end
step-end x d end c rest at_x e h k = rw e (omega (arith, times-le at_x c d k))

work-own : (kind : Kind) (r : Row) → same_kind r.kind kind ≡ true → work_of kind r ≡ r.hold + 1
work-own kind r is = rw is refl

work-other : (kind : Kind) (r : Row) → same_kind r.kind kind ≡ false → work_of kind r ≡ 0
work-other kind r is = rw is refl

module _ (b : Problem) (kind : Kind) where
  busy-own : (s : List Point) (n t : ℕ) → same_kind (row_at b n).kind kind ≡ true → rest_busy kind t (point_of b s n) ≡ (point_of b s n).free - t
  busy-own s n t is = rw (point_of-row b s n, is) refl

  busy-other : (s : List Point) (n t : ℕ) → same_kind (row_at b n).kind kind ≡ false → rest_busy kind t (point_of b s n) ≡ 0
  busy-other s n t is = rw (point_of-row b s n, is) refl

  issue_gap : (s : List Point) (n : ℕ) → (a : ℕ) × ((point_of b s n).issue ≡ next s + a)
  issue_gap s n = ((point_of b s n).issue - next s, omega (arith, next-le-issue b s n))

  pub at_issue-lt : (s : List Point) (n : ℕ) → same_kind (row_at b n).kind kind ≡ true → tally (busy_at kind (point_of b s n).issue) s < copies b kind
  unfolding point
  at_issue-lt s n is =
      subst (λ (k : Kind). tally (busy_at k (point_of b s n).issue) s < copies b k) (same_kind-true (row_at b n).kind kind is) (issue-unit b s (row_at b n))

  -- never are more units busy than there are
  fits-step : (s : List Point) (n : ℕ) → tally (busy_at kind (next s)) s ≤ copies b kind → tally (busy_at kind (next (point_of b s n ∷ s))) (point_of b s n ∷ s) ≤ copies b kind
  fits-step s n h =
      let i = (point_of b s n).issue in
      let len = (point_of b s n).row.parcels in
      let (gap, e) = issue_gap s n in
      let f1 : tally (busy_at kind (i + len)) s ≤ tally (busy_at kind i) s = fewer kind i len s in
      let f2 : tally (busy_at kind i) s ≤ tally (busy_at kind (next s)) s = rw e (fewer kind (next s) gap s) in
      elim (cases_Bool (same_kind (row_at b n).kind kind)) [
        | inl is ↦ omega (arith, at_issue-lt s n is, at-most-one (busy_at kind (i + len) (point_of b s n)))
        | inr is ↦ omega (arith, not_busy kind (i + len) (point_of b s n) (rw (point_of-row b s n) is))
      ]

  work-step : (s : List Point) (n : ℕ) → tally (busy_at kind (next s)) s ≤ copies b kind → weigh (rest_busy kind (next s)) s + work_of kind (row_at b n) + copies b kind * next s ≤ weigh (rest_busy kind (next (point_of b s n ∷ s))) (point_of b s n ∷ s) + copies b kind * next (point_of b s n ∷ s)
  work-step s n h =
      let p = point_of b s n in
      let i = p.issue in
      let len = p.row.parcels in
      let (gap, e) = issue_gap s n in
      let d1 : weigh (rest_busy kind (next s)) s ≤ weigh (rest_busy kind i) s + tally (busy_at kind (next s)) s * gap = rw e (drain kind (next s) gap s) in
      let d2 : weigh (rest_busy kind i) s ≤ weigh (rest_busy kind (i + len)) s + tally (busy_at kind i) s * len = drain kind i len s in
      let f2 : tally (busy_at kind i) s ≤ tally (busy_at kind (next s)) s = rw e (fewer kind (next s) gap s) in
      elim (cases_Bool (same_kind (row_at b n).kind kind)) [
        | inl is ↦
            omega (
              arith,
              busy-own s n (i + len) is,
              work-own kind (row_at b n) is,
              e,
              ap (λ t. copies b kind * t) e,
              hold-le-free b s n,
              issue-le-start b s n,
              step-own (next s) gap len (copies b kind) ((row_at b n).hold + 1) (weigh (rest_busy kind (next s)) s) (weigh (rest_busy kind (i + len)) s) (weigh (rest_busy kind i) s) (tally (busy_at kind (next s)) s) (tally (busy_at kind i) s) d1 d2 h (omega (arith, at_issue-lt s n is)),
            )
        | inr is ↦
            omega (
              arith,
              busy-other s n (i + len) is,
              work-other kind (row_at b n) is,
              e,
              ap (λ t. copies b kind * t) e,
              step-other (next s) gap len (copies b kind) (weigh (rest_busy kind (next s)) s) (weigh (rest_busy kind (i + len)) s) (weigh (rest_busy kind i) s) (tally (busy_at kind (next s)) s) (tally (busy_at kind i) s) d1 d2 h (omega arith),
            )
      ]

  -- all the work is done by an end that comes after all points
  work-run : (s : List Point) (rest : List ℕ) (end : ℕ) → tally (busy_at kind (next s)) s ≤ copies b kind → total (points_after b s rest) ≤ end → next (points_after b s rest) ≤ end → weigh (rest_busy kind (next s)) s + weigh (λ n. work_of kind (row_at b n)) rest + copies b kind * next s ≤ copies b kind * end
  work-run s [] end fits h1 h2 =
      let e : next s + (end - next s) ≡ end = omega arith in
      let d = rw e at (drain kind (next s) (end - next s) s) in
      step-end (next s) (end - next s) end (copies b kind) (weigh (rest_busy kind (next s)) s) (tally (busy_at kind (next s)) s) (sym e) (omega (arith, d, all_drained kind end s h1)) fits
  work-run s (n ∷ rest) end fits h1 h2 =
      omega (arith, work-run (point_of b s n ∷ s) rest end (fits-step s n fits) h1 h2, work-step s n fits)

  -- no more units are busy than there are, when the last has issued and its parcels have passed
  pub fits-run : (s : List Point) (rest : List ℕ) → tally (busy_at kind (next s)) s ≤ copies b kind → tally (busy_at kind (next (points_after b s rest))) (points_after b s rest) ≤ copies b kind
  fits-run s [] h = h
  fits-run s (n ∷ rest) h = fits-run (point_of b s n ∷ s) rest (fits-step s n h)

-- THE BOUND

-- the last issue and its parcels are no later than the total
pub next-le-total : (b : Problem) (s : List Point) (rest : List ℕ) → next s ≤ total s → next (points_after b s rest) ≤ total (points_after b s rest)
next-le-total b s [] h = h
next-le-total b s (n ∷ rest) h =
    next-le-total b (point_of b s n ∷ s) rest (omega (arith, hold-le-free b s n, issue-le-start b s n, (good-at b n).parcels.1, (good-at b n).hold.0, ap (λ (r : Row). r.parcels) (point_of-row b s n)))

over-arith : (x c d : ℕ) → 1 ≤ c → x ≤ c * d → x + (c - 1) < (d + 1) * c
over-arith x c d some h = omega arith

pub over-le : (x c d : ℕ) → 1 ≤ c → x ≤ c * d → over x c ≤ d
over-le x c d some h =
    let q : (x + (c - 1)) / c < d + 1 = (div-lt_iff_lt-mul {k = c} {x = x + (c - 1)} {y = d + 1} some).1 (over-arith x c d some h) in
    omega arith

work-fits : (busy work c x end d : ℕ) → busy + work + c * x ≤ c * end → end ≡ x + d → work + busy ≤ c * d
work-fits busy work c x end d h e = (let k : busy + work + c * x ≤ c * (x + d) = rw e at h in omega arith)

-- every order that goes on from there takes at least the load
pub load-sound : (b : Problem) (prefix rest : List ℕ) (kind : Kind) → IsBeginning b.block prefix → Completes b.block prefix rest → load b prefix kind ≤ total_of b (prefix ++ rest)
load-sound b prefix rest kind begins h =
    let s = points_of b prefix in
    let end = total_of b (prefix ++ rest) in
    let e : points_of b (prefix ++ rest) ≡ points_after b s rest = points_after-append b [] prefix rest in
    let next_le : next (points_of b (prefix ++ rest)) ≤ end = next-le-total b [] (prefix ++ rest) (omega arith) in
    let next_le2 : next (points_after b s rest) ≤ end = omega (arith, next_le, ap next e) in
    let total_le : total (points_after b s rest) ≤ end = omega (arith, ap total e) in
    let grows : next s ≤ next (points_after b s rest) = omega (arith, next-grows b s rest) in
    let run = work-run b kind s rest end (fits-run b kind [] prefix (omega arith)) total_le next_le2 in
    let work : sum_remaining b.block prefix (λ n. work_of kind (row_at b n)) ≡ weigh (λ n. work_of kind (row_at b n)) rest = sum_remaining-is_rest b.block (λ n. work_of kind (row_at b n)) prefix rest begins h in
    let e2 : end ≡ next s + (end - next s) = omega arith in
    let fits : unit_work b prefix kind ≤ copies b kind * (end - next s) = rw work (work-fits (weigh (rest_busy kind (next s)) s) (weigh (λ n. work_of kind (row_at b n)) rest) (copies b kind) (next s) end (end - next s) run e2) in
    omega (arith, over-le (unit_work b prefix kind) (copies b kind) (end - next s) (some_copies b.profile kind) fits)
