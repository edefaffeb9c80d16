-- What facts give: pairs of which one stands first, and what a prefix decides.
use Rattle.std.proofs.Common.{ℕ, ◌+◌, ◌≤◌, ◌<◌, ◌≡◌, ◌≢◌, ◌⊎◌, Bool, true, false, true≢false, cond, List, [], ◌∷◌, ◌++◌, length, refl, sym, ap, arith, inl, inr, eqb, ltb, append_assoc, subst, ◌∙◌}
use Rattle.std.proofs.Common.{eqb-true, eq-eqb, lt-ltb}
use Rattle.std.proofs.lemmas.Bool.{cond_both, cond-true, cond-false, cases_Bool, cases_lt, or_cases, or_parts, and_from, eqb-false}
use Rattle.s66_isa.specs.{Kind, Reg, tally, has, Among, Row, same_kind}
use Rattle.s66_isa.proofs.Lists.{greatest-le-greatest, has-among, among-has, split-among}
use Rattle.s66_model.specs.{Problem, Point, row_at, copies, done_at, end_of, total, busy_at, point_of, points_after, points_of, next, total_of, depends, IsLegal}
use Rattle.s66_model.proofs.Issue.{done_at-le}
use Rattle.s66_model.proofs.LoadBound.{at_issue-lt}
use Rattle.s66_model.proofs.PointTimes.{points_after-append, next-le-issue, next-grows, issue-le-start, hold-le-free, point_of-row, point_of-number}
use Rattle.s66_model.proofs.Beginnings.{has-more}
use Rattle.s66_moments.specs.{Issue, Start, Done, Free, Origin, At, End, time_at, time_of, Fact, Arc, Before, IsSo, AreSo, Follows, NoOrder}
use Rattle.s66_moments.proofs.Placed.{among-stays, has-split, has-joined, placed, placed-range, time_at-placed}

-- WHAT IS KNOWN

pub among-so : (b : Problem) (order : List ℕ) (fact : Fact) (facts : List Fact) → Among fact facts → AreSo b order facts → IsSo b order fact
among-so b order fact [] among so = absurd among
among-so b order fact (other ∷ facts) among so =
    elim among [
      | inl here ↦ subst (λ x. IsSo b order x) (sym here) so.0
      | inr past ↦ among-so b order fact facts past so.1
    ]

-- MOMENTS

-- the greatest of some is at most the greatest of all
time_at-le : (n : ℕ) (f : Point → ℕ) (s : List Point) → ((p : Point) → f p ≤ end_of p) → time_at n f s ≤ total s
time_at-le n f s h =
    greatest-le-greatest (λ (p : Point). cond (eqb n p.number) (f p) 0) end_of (λ p. cond_both (eqb n p.number) (f p) 0 (λ x. x ≤ end_of p) (λ _. h p) (λ _. omega arith)) s

pub free-last : (b : Problem) (order : List ℕ) (n : ℕ) → time_of b order (At n Free) ≤ total_of b order
free-last b order n = time_at-le n (λ (p : Point). p.free) (points_of b order) (λ p. omega arith)

pub done-last : (b : Problem) (order : List ℕ) (n : ℕ) (r : Reg) → time_of b order (At n (Done r)) ≤ total_of b order
done-last b order n r = time_at-le n (λ (p : Point). done_at p r) (points_of b order) (done_at-le r)

module _ (b : Problem) (order : List ℕ) (legal : IsLegal b.block order) where
  pub issue-start : (n : ℕ) → 1 ≤ n → n ≤ length b.block → time_of b order (At n Issue) ≤ time_of b order (At n Start)
  issue-start n low high =
      let (front, rest, is) = placed b order legal n low high in
      omega (arith, time_at-placed b order legal front rest n (λ (p : Point). p.issue) is, time_at-placed b order legal front rest n (λ (p : Point). p.start) is, issue-le-start b (points_of b front) n)

  pub start-free : (n : ℕ) → 1 ≤ n → n ≤ length b.block → time_of b order (At n Start) + ((row_at b n).hold + 1) ≤ time_of b order (At n Free)
  start-free n low high =
      let (front, rest, is) = placed b order legal n low high in
      omega (arith, time_at-placed b order legal front rest n (λ (p : Point). p.start) is, time_at-placed b order legal front rest n (λ (p : Point). p.free) is, hold-le-free b (points_of b front) n)

-- PAIRS

has-parts : (n : ℕ) (xs ys : List ℕ) → has n (xs ++ ys) ≡ true → (has n xs ≡ true) ⊎ (has n ys ≡ true)
has-parts n xs ys h =
    elim (split-among n xs ys (has-among n (xs ++ ys) h)) [
      | inl front ↦ inl (among-has n xs front)
      | inr rest ↦ inr (among-has n ys rest)
    ]

-- where a number stands for the first time
front-unique : (n : ℕ) (front other rest more : List ℕ) → front ++ n ∷ rest ≡ other ++ n ∷ more → has n front ≡ false → has n other ≡ false → front ≡ other
front-unique n [] [] rest more e new new2 = refl
front-unique n [] (m ∷ other) rest more e new new2 =
    let same : n ≡ m = cc in
    absurd (eqb-false n m (or_parts (eqb n m) (has n other) new2).0 same)
front-unique n (m ∷ front) [] rest more e new new2 =
    let same : n ≡ m = cc in
    absurd (eqb-false n m (or_parts (eqb n m) (has n front) new).0 same)
front-unique n (m ∷ front) (k ∷ other) rest more e new new2 =
    let same : m ≡ k = cc in
    let rests : front ++ n ∷ rest ≡ other ++ n ∷ more = cc in
    let fronts : front ≡ other = front-unique n front other rest more rests (or_parts (eqb n m) (has n front) new).1 (or_parts (eqb n k) (has n other) new2).1 in
    ap (λ j. j ∷ front) same ∙ ap (λ ns. k ∷ ns) fronts

tally-some : {X : Type 0} (test : X → Bool) (x : X) (xs : List X) → Among x xs → test x ≡ true → 1 ≤ tally test xs
tally-some test x [] among is = absurd among
tally-some test x (y ∷ ys) among is =
    elim among [
      | inl here ↦ omega (arith, cond-true {A = ℕ} (test y) 1 0 (subst (λ z. test z ≡ true) here is))
      | inr past ↦ omega (arith, tally-some test x ys past is)
    ]

module _ (b : Problem) (order : List ℕ) (legal : IsLegal b.block order) where
  -- wherever x is, y comes before it
  pub before-front : (y x : ℕ) (front rest : List ℕ) → IsSo b order (Before y x) → order ≡ front ++ x ∷ rest → has y front ≡ true
  before-front y x front rest (other, more, is, before) here =
      let same : front ≡ other = front-unique x front other rest more (sym here ∙ is) (placed-range b order legal front rest x here).2 (placed-range b order legal other more x is).2 in
      subst (λ ns. has y ns ≡ true) (sym same) before

  -- y, and later x
  pub before-split : (y x : ℕ) → IsSo b order (Before y x) → (front mid rest : List ℕ) × (order ≡ front ++ y ∷ (mid ++ x ∷ rest)) × (order ≡ (front ++ y ∷ mid) ++ x ∷ rest)
  before-split y x (other, rest, is, before) =
      let (front, mid, e) = has-split y other before in
      let later : order ≡ (front ++ y ∷ mid) ++ x ∷ rest = is ∙ ap (λ ns. ns ++ x ∷ rest) e in
      (front, mid, rest, later ∙ append_assoc front (y ∷ mid) (x ∷ rest), later)

  pub before-transitive : (x y z : ℕ) → IsSo b order (Before x y) → IsSo b order (Before y z) → IsSo b order (Before x z)
  before-transitive x y z first second =
      let (front, mid, rest, here, later) = before-split y z second in
      (front ++ y ∷ mid, rest, later, has-more x front (y ∷ mid) (before-front x y front (mid ++ z ∷ rest) first here))

  pub before-itself : (x : ℕ) → IsSo b order (Before x x) → ⊥
  before-itself x (front, rest, is, before) = true≢false (sym before ∙ (placed-range b order legal front rest x is).2)

  pub depends-before : (x y : ℕ) → y ≤ length b.block → depends b.block x y ≡ true → 1 ≤ y → IsSo b order (Before x y)
  depends-before x y high dep low =
      let (front, rest, is) = placed b order legal y low high in
      (front, rest, is, legal.kept x y front rest dep is)

  -- of two numbers one stands first
  pub one-before : (x y : ℕ) → x ≢ y → 1 ≤ x → x ≤ length b.block → 1 ≤ y → y ≤ length b.block → IsSo b order (Before x y) ⊎ IsSo b order (Before y x)
  one-before x y differ low high low2 high2 =
      let (front, rest, is) = placed b order legal x low high in
      let (front2, rest2, is2) = placed b order legal y low2 high2 in
      let there : has y (front ++ x ∷ rest) ≡ true = subst (λ ns. has y ns ≡ true) (sym is2 ∙ is) (has-joined y front2 rest2) in
      elim (has-parts y front (x ∷ rest) there) [
        | inl before ↦ inr (front, rest, is, before)
        | inr past ↦
            elim (or_cases (eqb y x) (has y rest) past) [
              | inl same ↦ absurd (differ (sym (eqb-true y x same)))
              | inr after ↦
                  let (mid, more, e) = has-split y rest after in
                  let whole : order ≡ (front ++ x ∷ mid) ++ y ∷ more = is ∙ ap (λ ns. front ++ x ∷ ns) e ∙ sym (append_assoc front (x ∷ mid) (y ∷ more)) in
                  inl (front ++ x ∷ mid, more, whole, has-joined x front mid)
            ]
      ]

  -- what stands first issues first, by its parcels at the least
  pub before-parcels : (y x : ℕ) → IsSo b order (Before y x) → time_of b order (At y Issue) + (row_at b y).parcels ≤ time_of b order (At x Issue)
  before-parcels y x before =
      let (front, mid, rest, here, later) = before-split y x before in
      let s = points_of b front in
      let t = points_of b (front ++ y ∷ mid) in
      let e : t ≡ points_after b (point_of b s y ∷ s) mid = points_after-append b [] front (y ∷ mid) in
      omega (
        arith,
        time_at-placed b order legal front (mid ++ x ∷ rest) y (λ (p : Point). p.issue) here,
        time_at-placed b order legal (front ++ y ∷ mid) rest x (λ (p : Point). p.issue) later,
        next-le-issue b t x,
        ap next e,
        next-grows b (point_of b s y ∷ s) mid,
        ap (λ (r : Row). r.parcels) (point_of-row b s y),
      )

  -- and if there is one unit for both, it is free when the other issues
  pub before-unit : (y x : ℕ) → IsSo b order (Before y x) → same_kind (row_at b y).kind (row_at b x).kind ≡ true → copies b (row_at b x).kind ≡ 1 → time_of b order (At y Free) ≤ time_of b order (At x Issue)
  before-unit y x before same one =
      let (front, mid, rest, here, later) = before-split y x before in
      let s = points_of b front in
      let t = points_of b (front ++ y ∷ mid) in
      let p = point_of b s y in
      let q = point_of b t x in
      let e : t ≡ points_after b (p ∷ s) mid = points_after-append b [] front (y ∷ mid) in
      let among : Among p t = subst (λ u. Among p u) (sym e) (among-stays b p (p ∷ s) mid (inl refl)) in
      let kind : Kind = (row_at b x).kind in
      let few : tally (busy_at kind q.issue) t < copies b kind = at_issue-lt b kind t x (eq-eqb _ _ refl) in
      let same2 : same_kind p.row.kind kind ≡ true = rw (point_of-row b s y) same in
      let free : p.free ≤ q.issue =
      elim (cases_lt q.issue p.free) [
        | inl busy ↦ absurd (omega (arith, few, one, tally-some (busy_at kind q.issue) p t among (and_from (same_kind p.row.kind kind) (ltb q.issue p.free) same2 (lt-ltb q.issue p.free busy))))
        | inr free ↦ free
      ] in
      omega (
        arith,
        free,
        time_at-placed b order legal front (mid ++ x ∷ rest) y (λ (p : Point). p.free) here,
        time_at-placed b order legal (front ++ y ∷ mid) rest x (λ (p : Point). p.issue) later,
      )

-- FORCED PAIRS

module _ (b : Problem) (low : ℕ) (facts : List Fact) (x y : ℕ) (differ : x ≢ y) (is_x : (1 ≤ x) × (x ≤ length b.block)) (is_y : (1 ≤ y) × (y ≤ length b.block)) where
  pub forced : NoOrder b low (Before x y ∷ facts) → Follows b low facts (Before y x)
  forced none order legal less so =
      elim (one-before b order legal x y differ is_x.0 is_x.1 is_y.0 is_y.1) [
        | inl first ↦ absurd (none order legal less (first, so))
        | inr second ↦ second
      ]

  pub forced-parcels : (h t : ℕ) → Follows b low facts (Arc Origin h (At x Issue) 0) → Follows b low facts (Arc (At y Issue) t End 0) → low ≤ h + (row_at b x).parcels + t → Follows b low facts (Before y x)
  forced-parcels h t head tail late =
      forced (λ order legal less so. (let one = head order legal less so.1 in let two = tail order legal less so.1 in absurd (omega (arith, less, late, one, two, before-parcels b order legal x y so.0))))

  pub forced-unit : (h t : ℕ) → same_kind (row_at b x).kind (row_at b y).kind ≡ true → copies b (row_at b y).kind ≡ 1 → Follows b low facts (Arc Origin h (At x Free) 0) → Follows b low facts (Arc (At y Issue) t End 0) → low ≤ h + t → Follows b low facts (Before y x)
  forced-unit h t same one head tail late =
      forced (λ order legal less so. (let one2 = head order legal less so.1 in let two = tail order legal less so.1 in absurd (omega (arith, less, late, one2, two, before-unit b order legal x y so.0 same one))))

-- A PREFIX

time_at-run : (b : Problem) (n : ℕ) (f : Point → ℕ) (s : List Point) (ns : List ℕ) → has n ns ≡ false → time_at n f (points_after b s ns) ≡ time_at n f s
time_at-run b n f s [] none = refl
time_at-run b n f s (m ∷ ns) none =
    let both = or_parts (eqb n m) (has n ns) none in
    let other : eqb n (point_of b s m).number ≡ false = ap (λ k. eqb n k) (point_of-number b s m) ∙ both.0 in
    time_at-run b n f (point_of b s m ∷ s) ns both.1 ∙ omega (arith, cond-false {A = ℕ} (eqb n (point_of b s m).number) (f (point_of b s m)) 0 other)

module _ (b : Problem) (order : List ℕ) (legal : IsLegal b.block order) (prefix rest : List ℕ) (is : order ≡ prefix ++ rest) where
  -- what is placed is not in the rest
  rest-new : (n : ℕ) → has n prefix ≡ true → has n rest ≡ false
  rest-new n there =
      elim (cases_Bool (has n rest)) [
        | inl again ↦
            let (mid, more, e) = has-split n rest again in
            let whole : order ≡ (prefix ++ mid) ++ n ∷ more = is ∙ ap (λ ns. prefix ++ ns) e ∙ sym (append_assoc prefix mid (n ∷ more)) in
            absurd (true≢false (sym (has-more n prefix mid there) ∙ (placed-range b order legal (prefix ++ mid) more n whole).2))
        | inr none ↦ none
      ]

  -- what is at a placed number is as it is at the prefix
  pub prefix-time_at : (n : ℕ) (f : Point → ℕ) → has n prefix ≡ true → time_at n f (points_of b order) ≡ time_at n f (points_of b prefix)
  prefix-time_at n f there =
      ap (λ ns. time_at n f (points_of b ns)) is ∙ ap (λ s. time_at n f s) (points_after-append b [] prefix rest) ∙ time_at-run b n f (points_of b prefix) rest (rest-new n there)

  pub later-place : (n : ℕ) → has n prefix ≡ false → 1 ≤ n → n ≤ length b.block → (mid more : List ℕ) × (order ≡ (prefix ++ mid) ++ n ∷ more)
  later-place n new low high =
      let (front, more, here) = placed b order legal n low high in
      let there : has n (prefix ++ rest) ≡ true = subst (λ ns. has n ns ≡ true) (sym here ∙ is) (has-joined n front more) in
      elim (has-parts n prefix rest there) [
        | inl old ↦ absurd (true≢false (sym old ∙ new))
        | inr past ↦
            let (mid, after, e) = has-split n rest past in
            (mid, after, is ∙ ap (λ ns. prefix ++ ns) e ∙ sym (append_assoc prefix mid (n ∷ after)))
      ]

  -- what is not placed stands after what is
  pub prefix-before : (x y : ℕ) → has x prefix ≡ true → has y prefix ≡ false → 1 ≤ y → y ≤ length b.block → IsSo b order (Before x y)
  prefix-before x y there new low high =
      let (mid, more, here) = later-place y new low high in
      (prefix ++ mid, more, here, has-more x prefix mid there)
