-- In a legal order each number has one point, and what a point is at stands by the numbers before it.
use Rattle.std.proofs.Common.{ℕ, ◌+◌, ◌≤◌, ◌≡◌, true, false, true≢false, cond, List, [], ◌∷◌, ◌++◌, length, refl, sym, ap, arith, inl, inr, eqb, subst, ◌∙◌, eq-eqb, eqb-true}
use Rattle.std.proofs.lemmas.Bool.{cond-true, cond-false, cases_Bool, or_cases, or_left, or_right}
use Rattle.s66_isa.specs.{tally, has, Among}
use Rattle.s66_model.specs.{Problem, Point, point_of, points_after, points_of, IsLegal, is_ready}
use Rattle.s66_model.proofs.LegalOrders.{legal-order, ready-parts}
use Rattle.s66_model.proofs.Remaining.{legal-parts, order-has}
use Rattle.s66_model.proofs.PointTimes.{point_of-number, points_after-append}
use Rattle.s66_moments.specs.{time_at}

-- HOW MANY POINTS A NUMBER HAS

abbrev pub count : ℕ → List Point → ℕ
count n s = tally (λ (p : Point). eqb n p.number) s

count-run : (b : Problem) (n : ℕ) (s : List Point) (ns : List ℕ) → count n (points_after b s ns) ≡ count n s + tally (λ m. eqb n m) ns
count-run b n s [] = omega arith
count-run b n s (m ∷ ns) =
    omega (arith, count-run b n (point_of b s m ∷ s) ns, ap (λ k. cond {A = ℕ} (eqb n k) 1 0) (point_of-number b s m))

count-some : (n : ℕ) (p : Point) (s : List Point) → Among p s → n ≡ p.number → 1 ≤ count n s
count-some n p [] among is = absurd among
count-some n p (q ∷ s) among is =
    elim among [
      | inl here ↦ omega (arith, cond-true {A = ℕ} (eqb n q.number) 1 0 (eq-eqb n q.number (is ∙ ap (λ (r : Point). r.number) here)))
      | inr past ↦ omega (arith, count-some n p s past is)
    ]

time_at-none : (n : ℕ) (f : Point → ℕ) (s : List Point) → count n s ≡ 0 → time_at n f s ≡ 0
time_at-none n f [] none = refl
time_at-none n f (p ∷ s) none =
    elim (cases_Bool (eqb n p.number)) [
      | inl is ↦ absurd (omega (arith, cond-true {A = ℕ} (eqb n p.number) 1 0 is))
      | inr is ↦ omega (arith, cond-false {A = ℕ} (eqb n p.number) (f p) 0 is, time_at-none n f s (omega arith))
    ]

time_at-one : (n : ℕ) (f : Point → ℕ) (p : Point) (s : List Point) → Among p s → n ≡ p.number → count n s ≤ 1 → time_at n f s ≡ f p
time_at-one n f p [] among is one = absurd among
time_at-one n f p (q ∷ s) among is one =
    elim among [
      | inl here ↦
          let same : eqb n q.number ≡ true = eq-eqb n q.number (is ∙ ap (λ (r : Point). r.number) here) in
          omega (arith, cond-true {A = ℕ} (eqb n q.number) 1 0 same, cond-true {A = ℕ} (eqb n q.number) (f q) 0 same, ap f here, time_at-none n f s (omega (arith, one, cond-true {A = ℕ} (eqb n q.number) 1 0 same)))
      | inr past ↦
          elim (cases_Bool (eqb n q.number)) [
            | inl same ↦ absurd (omega (arith, cond-true {A = ℕ} (eqb n q.number) 1 0 same, count-some n p s past is))
            | inr other ↦ omega (arith, cond-false {A = ℕ} (eqb n q.number) (f q) 0 other, time_at-one n f p s past is (omega (arith, cond-false {A = ℕ} (eqb n q.number) 1 0 other)))
          ]
    ]

-- earlier points stay
pub among-stays : (b : Problem) (p : Point) (s : List Point) (ns : List ℕ) → Among p s → Among p (points_after b s ns)
among-stays b p s [] h = h
among-stays b p s (n ∷ ns) h = among-stays b p (point_of b s n ∷ s) ns (inr h)

-- A NUMBER IN AN ORDER

pub has-split : (n : ℕ) (ns : List ℕ) → has n ns ≡ true → (front rest : List ℕ) × (ns ≡ front ++ n ∷ rest)
has-split n [] h = absurd (true≢false (sym h))
has-split n (m ∷ ns) h =
    elim (or_cases (eqb n m) (has n ns) h) [
      | inl here ↦ ([], ns, ap (λ k. k ∷ ns) (sym (eqb-true n m here)))
      | inr past ↦ (let (front, rest, e) = has-split n ns past in (m ∷ front, rest, ap (λ xs. m ∷ xs) e))
    ]

pub has-joined : (n : ℕ) (front rest : List ℕ) → has n (front ++ n ∷ rest) ≡ true
has-joined n [] rest = or_left (eqb n n) (has n rest) (eq-eqb n n refl)
has-joined n (m ∷ front) rest = or_right (eqb n m) (has n (front ++ n ∷ rest)) (has-joined n front rest)

module _ (b : Problem) (order : List ℕ) (legal : IsLegal b.block order) where
  -- each number of the block is somewhere
  pub placed : (n : ℕ) → 1 ≤ n → n ≤ length b.block → (front rest : List ℕ) × (order ≡ front ++ n ∷ rest)
  placed n low high = has-split n order (order-has b.block order (legal-order b.block order legal) n low high)

  pub placed-ready : (front rest : List ℕ) (n : ℕ) → order ≡ front ++ n ∷ rest → is_ready b.block front n ≡ true
  placed-ready front rest n is =
      (let (begins, completes) = legal-parts b.block front (n ∷ rest) (subst (λ xs. IsLegal b.block xs) is legal) in completes.0.0)

  -- only numbers of the block are
  pub placed-range : (front rest : List ℕ) (n : ℕ) → order ≡ front ++ n ∷ rest → (1 ≤ n) × (n ≤ length b.block) × (has n front ≡ false)
  placed-range front rest n is =
      (let (low, high, new, met) = ready-parts b.block front n (placed-ready front rest n is) in (low, high, new))

  pub points-split : (front rest : List ℕ) (n : ℕ) → order ≡ front ++ n ∷ rest → points_of b order ≡ points_after b (point_of b (points_of b front) n ∷ points_of b front) rest
  points-split front rest n is = ap (points_of b) is ∙ points_after-append b [] front (n ∷ rest)

  pub point-among : (front rest : List ℕ) (n : ℕ) → order ≡ front ++ n ∷ rest → Among (point_of b (points_of b front) n) (points_of b order)
  point-among front rest n is =
      subst (λ s. Among (point_of b (points_of b front) n) s) (sym (points-split front rest n is)) (among-stays b (point_of b (points_of b front) n) (point_of b (points_of b front) n ∷ points_of b front) rest (inl refl))

  count-one : (n : ℕ) → 1 ≤ n → n ≤ length b.block → count n (points_of b order) ≡ 1
  count-one n low high = omega (arith, count-run b n [] order, legal.once n low high)

  pub time_at-point : (n : ℕ) (f : Point → ℕ) (p : Point) → 1 ≤ n → n ≤ length b.block → Among p (points_of b order) → n ≡ p.number → time_at n f (points_of b order) ≡ f p
  time_at-point n f p low high among is = time_at-one n f p (points_of b order) among is (omega (arith, count-one n low high))

  -- what is at a number is at its point after those before it
  pub time_at-placed : (front rest : List ℕ) (n : ℕ) (f : Point → ℕ) → order ≡ front ++ n ∷ rest → time_at n f (points_of b order) ≡ f (point_of b (points_of b front) n)
  time_at-placed front rest n f is =
      (let (low, high, new) = placed-range front rest n is in
      time_at-point n f (point_of b (points_of b front) n) low high (point-among front rest n is) (sym (point_of-number b (points_of b front) n)))
