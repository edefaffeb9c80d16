-- Work of one kind between two moments takes its sum over the copies, rounded up, and as many whole works as one copy has.
use Rattle.std.proofs.Common.{ℕ, zero, suc, ◌+◌, ◌-◌, ◌*◌, ◌≤◌, ◌<◌, ◌≡◌, true, cond, List, [], ◌∷◌, length, map, refl, arith, inl, inr, eqb, subst}
use Rattle.std.proofs.lemmas.Bool.{cases_lt}
use Rattle.s66_isa.specs.{Kind, least, weigh, tally, has, Among, same_kind}
use Rattle.s66_isa.proofs.Lists.{least-le}
use Rattle.s66_model.specs.{Problem, Point, copies, point_of, points_of, total_of, IsLegal, over}
use Rattle.s66_model.proofs.Issue.{some_copies}
use Rattle.s66_model.proofs.LoadBound.{over-le}
use Rattle.s66_model.proofs.PointTimes.{point_of-row, point_of-number}
use Rattle.s66_moments.specs.{Issue, Free, At, time_of, Fact, Arc, AreSo, Follows, Work, load_time, AreOnce, Window, IsWithin}
use Rattle.s66_moments.proofs.Placed.{placed, point-among, time_at-placed}
use Rattle.s66_moments.proofs.UnitWindows.{works_at, works-run, work_between, between-le, either, has-one, some-le}
use Rattle.s66_moments.proofs.WholeUses.{looks, looks-le, held-looked}

-- some of what each number does of something is no more than all that is done of it
works-le : (given : Work → ℕ) (done : Point → ℕ) (s : List Point) (works : List Work) → AreOnce (map (λ (x : Work). x.number) works) → ((x : Work) → Among x works → (p : Point) × Among p s × (p.number ≡ x.number) × (given x ≤ done p)) → weigh given works ≤ weigh (λ (p : Point). cond (has p.number (map (λ (x : Work). x.number) works)) (done p) 0) s
works-le given done s [] once there = omega arith
works-le given done s (x ∷ works) once there =
    let (p, among, is, much) = there x (inl refl) in
    let here : done p ≤ weigh (λ (q : Point). cond (eqb q.number x.number) (done q) 0) s = subst (λ n. done p ≤ weigh (λ (q : Point). cond (eqb q.number n) (done q) 0) s) is (has-one done p s among) in
    omega (arith, much, here, works-le given done s works once.1 (λ y in_works. there y (inr in_works)), either done x.number (map (λ (y : Work). y.number) works) s once.0)

one-each : (works : List Work) → weigh (λ (x : Work). 1) works ≡ length works
one-each [] = refl
one-each (x ∷ works) = omega (arith, one-each works)

-- if so many whole ones don't fit, less don't
over-whole : (k a z v : ℕ) → z < a + suc k * suc v → z ≤ a + k * suc v + v
over-whole k a z v less = (let more : suc k * suc v ≡ k * suc v + suc v = grind arith in omega (arith, more, less))

-- in one order, between the times a and z
module _ (b : Problem) (kind : Kind) (order : List ℕ) (legal : IsLegal b.block order) (a z : ℕ) where
  abbrev done_by : Point → ℕ
  done_by p = work_between kind a z p

  -- the unit of the number does this much there
  abbrev DoesThere : Work → Type 0
  DoesThere x = (p : Point) × Among p (points_of b order) × (p.number ≡ x.number) × (x.amount ≤ done_by p)

  never-more : (t : ℕ) → tally (works_at kind t) (points_of b order) ≤ copies b kind
  never-more t = works-run b kind [] order t (omega arith)

  pub works-fit : (works : List Work) → AreOnce (map (λ (x : Work). x.number) works) → ((x : Work) → Among x works → DoesThere x) → a ≤ z → over (weigh (λ (x : Work). x.amount) works) (copies b kind) + a ≤ z
  works-fit works once there le =
      let e : a + (z - a) ≡ z = omega arith in
      let most : weigh done_by (points_of b order) ≤ copies b kind * (z - a) = subst (λ y. weigh (work_between kind a y) (points_of b order) ≤ copies b kind * (z - a)) e (between-le kind (points_of b order) (copies b kind) never-more a (z - a)) in
      omega (arith, over-le (weigh (λ (x : Work). x.amount) works) (copies b kind) (z - a) (some_copies b.profile kind) (omega (arith, works-le (λ (x : Work). x.amount) done_by (points_of b order) works once there, some-le done_by (map (λ (x : Work). x.number) works) (points_of b order), most)))

  -- before the last one of k + 1 stretches is over, units do no more works as long as one than k times as many as there are
  few-fit : (works : List Work) → AreOnce (map (λ (x : Work). x.number) works) → ((x : Work) → Among x works → DoesThere x) → (v k : ℕ) → ((x : Work) → Among x works → suc v ≤ x.amount) → z ≤ a + k * suc v + v → over (length works) (copies b kind) ≤ k
  few-fit works once there v k long late =
      let seen : weigh (λ (x : Work). 1) works ≤ weigh (λ (p : Point). cond (has p.number (map (λ (x : Work). x.number) works)) (looks kind a v k p) 0) (points_of b order) =
      works-le (λ (x : Work). 1) (looks kind a v k) (points_of b order) works once
      (λ x among. let (p, in_s, is, much) = there x among in (p, in_s, is, held-looked kind a v k z p (omega (arith, much, long x among)) late)) in
      over-le (length works) (copies b kind) k (some_copies b.profile kind)
      (omega (arith, one-each works, seen, some-le (looks kind a v k) (map (λ (x : Work). x.number) works) (points_of b order), looks-le kind (points_of b order) (copies b kind) never-more a v k))

  pub whole-fit : (works : List Work) → AreOnce (map (λ (x : Work). x.number) works) → ((x : Work) → Among x works → DoesThere x) → a ≤ z → over (length works) (copies b kind) * least (λ (x : Work). x.amount) works + a ≤ z
  whole-fit works once there le = by (over (length works) (copies b kind)) (least (λ (x : Work). x.amount) works) refl refl
    where
      by : (k u : ℕ) → over (length works) (copies b kind) ≡ k → least (λ (x : Work). x.amount) works ≡ u → k * u + a ≤ z
      by zero u is_k is_u = omega (arith, le)
      by (suc k) zero is_k is_u = omega (arith, le)
      by (suc k) (suc v) is_k is_u =
          elim (cases_lt z (a + suc k * suc v)) [
            | inl less ↦
                absurd (omega (arith, is_k, few-fit works once there v k (λ x among. omega (arith, is_u, least-le (λ (y : Work). y.amount) x works among)) (over-whole k a z v less)))
            | inr fits ↦ omega (arith, fits)
          ]

  pub shared-fit : (works : List Work) → AreOnce (map (λ (x : Work). x.number) works) → ((x : Work) → Among x works → DoesThere x) → a ≤ z → load_time b kind works + a ≤ z
  shared-fit works once there le = omega (arith, works-fit works once there le, whole-fit works once there le)

-- when a window begins in an order, and when it ends
abbrev begins : Problem → Window → List ℕ → ℕ
begins b window order = time_of b order window.from + window.after

abbrev ends : Problem → Window → List ℕ → ℕ
ends b window order = time_of b order window.to + window.less - window.left

-- what is between in its own words is between by the times of its point
does-there : (b : Problem) (low : ℕ) (facts : List Fact) (kind : Kind) (window : Window) (x : Work) → IsWithin b low facts kind window x →
    (order : List ℕ) (legal : IsLegal b.block order) → total_of b order < low → AreSo b order facts →
    (DoesThere b kind order legal (begins b window order) (ends b window order) x) × (begins b window order ≤ ends b window order)
    × (window.left ≤ time_of b order window.to + window.less)
does-there b low facts kind window x within order legal less so =
    let (front, rest, is) = placed b order legal x.number within.is_number.0 within.is_number.1 in
    let p : Point = point_of b (points_of b front) x.number in
    let issue : time_of b order (At x.number Issue) ≡ p.issue = time_at-placed b order legal front rest x.number (λ (r : Point). r.issue) is in
    let free : time_of b order (At x.number Free) ≡ p.free = time_at-placed b order legal front rest x.number (λ (r : Point). r.free) is in
    let i1 = within.issued order legal less so in
    let i2 = within.begun order legal less so in
    let i3 = within.held order legal less so in
    let i4 = within.ended order legal less so in
    let same : same_kind p.row.kind kind ≡ true = rw (point_of-row b (points_of b front) x.number) within.is_kind in
    let much : x.amount ≤ work_between kind (begins b window order) (ends b window order) p = rw same (omega (arith, i1, i2, i3, i4, issue, free)) in
    ((p, point-among b order legal front rest x.number is, point_of-number b (points_of b front) x.number, much), omega (arith, i2, i4), omega (arith, i4))

pub load-arc : (b : Problem) (low : ℕ) (facts : List Fact) (kind : Kind) (window : Window) (works : List Work) → 0 < length works → AreOnce (map (λ (x : Work). x.number) works) → ((x : Work) → Among x works → IsWithin b low facts kind window x) →
    Follows b low facts (Arc window.from (window.after + load_time b kind works + window.left) window.to window.less)
load-arc b low facts kind window [] some once within order legal less so = absurd (omega (arith, some))
load-arc b low facts kind window (y ∷ works) some once within order legal less so =
    let a : ℕ = begins b window order in
    let z : ℕ = ends b window order in
    let (there, le, late) = does-there b low facts kind window y (within y (inl refl)) order legal less so in
    let fit = shared-fit b kind order legal a z (y ∷ works) once (λ x among. (does-there b low facts kind window x (within x among) order legal less so).0) le in
    omega (arith, fit, late)
