-- Laws of the points of an order: when each issues, starts, is done and free at least, and how what comes after it only adds.
use Rattle.std.proofs.Common.{ℕ, ◌+◌, ◌≤◌, ◌<◌, ◌≡◌, List, [], ◌∷◌, ◌++◌, length, refl, ap, arith, inl, inr}
use Rattle.s66_isa.specs.{greatest, weigh, tally, Row, Write, IsInRange}
use Rattle.s66_isa.proofs.Lists.{cases_le, greatest-shift}
use Rattle.s66_isa.proofs.GoodRows.{row-good}
use Rattle.s66_model.specs.{Problem, Point, ResultAt, row_at, copies, end_of, next, slot_of, busy_at, issue_of, start_of, result_at, point, point_of, points_after, tail}
use Rattle.s66_model.proofs.Issue.{issue-is, issue-late}
use Rattle.s66_model.proofs.Growth.{fits_at-ge, free-ge, start-ge}

pub good-at : (b : Problem) (n : ℕ) → IsInRange (row_at b n)
good-at b n = row-good b.profile _

-- THE PARTS OF A POINT

pub point_of-row : (b : Problem) (s : List Point) (n : ℕ) → (point_of b s n).row ≡ row_at b n
unfolding point
point_of-row b s n = refl

pub point_of-number : (b : Problem) (s : List Point) (n : ℕ) → (point_of b s n).number ≡ n
unfolding point
point_of-number b s n = refl

next-le-slot : (s : List Point) (len : ℕ) → next s ≤ slot_of s len
next-le-slot [] len = omega arith
next-le-slot (p ∷ s) len = omega (arith, fits_at-ge (p.parcel + p.row.parcels) len)

pub next-le-issue : (b : Problem) (s : List Point) (n : ℕ) → next s ≤ (point_of b s n).issue
unfolding point
next-le-issue b s n = omega (arith, next-le-slot s (row_at b n).parcels, issue-late b s (row_at b n))

pub issue-le-start : (b : Problem) (s : List Point) (n : ℕ) → (point_of b s n).issue ≤ (point_of b s n).start
unfolding point
issue-le-start b s n = start-ge b s (row_at b n)

-- at its issue fewer than all units of its kind are busy
pub issue-unit : (b : Problem) (s : List Point) (r : Row) → tally (busy_at r.kind (issue_of b s r)) s < copies b r.kind
issue-unit b s r = (issue-is b s r).passes.0

-- WHAT COMES LATER

pub points_after-append : (b : Problem) (s : List Point) (xs ys : List ℕ) → points_after b s (xs ++ ys) ≡ points_after b (points_after b s xs) ys
points_after-append b s [] ys = refl
points_after-append b s (n ∷ xs) ys = points_after-append b (point_of b s n ∷ s) xs ys

-- a point for each number
pub points_after-length : (b : Problem) (s : List Point) (ns : List ℕ) → length (points_after b s ns) ≡ length s + length ns
points_after-length b s [] = omega arith
points_after-length b s (n ∷ ns) = omega (arith, points_after-length b (point_of b s n ∷ s) ns)

-- earlier points stay
pub greatest-stays : (b : Problem) (f : Point → ℕ) (s : List Point) (ns : List ℕ) → greatest f s ≤ greatest f (points_after b s ns)
greatest-stays b f s [] = omega arith
greatest-stays b f s (n ∷ ns) = omega (arith, greatest-stays b f (point_of b s n ∷ s) ns)

-- issues rise at least by the parcels between them
pub next-grows : (b : Problem) (s : List Point) (ns : List ℕ) → next s + weigh (λ n. (row_at b n).parcels) ns ≤ next (points_after b s ns)
next-grows b s [] = omega arith
next-grows b s (n ∷ ns) =
    omega (arith, next-grows b (point_of b s n ∷ s) ns, next-le-issue b s n, ap (λ (r : Row). r.parcels) (point_of-row b s n))

-- THE END OF A POINT

-- the unit is free no sooner than one more than a hold after the start
pub hold-le-free : (b : Problem) (s : List Point) (n : ℕ) → (point_of b s n).start + (row_at b n).hold + 1 ≤ (point_of b s n).free
unfolding point
hold-le-free b s n =
    let r : Row = row_at b n in
    free-ge s (start_of b s r) r.hold r.writes (good-at b n).hold.0 (good-at b n).unit

done-late : (b : Problem) (s : List Point) (n : ℕ) → 1 ≤ greatest (λ (w : Write). w.latency) (row_at b n).writes → (point_of b s n).start + greatest (λ (w : Write). w.latency) (row_at b n).writes ≤ greatest (λ (d : ResultAt). d.time) (point_of b s n).results
unfolding point
done-late b s n some =
    let r : Row = row_at b n in
    greatest-shift (λ (w : Write). w.latency) (λ (d : ResultAt). d.time) (result_at s (start_of b s r)) (start_of b s r) (greatest (λ (w : Write). w.latency) r.writes) (λ w h. omega arith) r.writes some (omega arith)

-- and its last free or done is no sooner than the tail after the start
pub tail-le-last : (b : Problem) (s : List Point) (n : ℕ) → (point_of b s n).start + tail (row_at b n) ≤ end_of (point_of b s n)
tail-le-last b s n =
    let free : (point_of b s n).start + (row_at b n).hold + 1 ≤ (point_of b s n).free = hold-le-free b s n in
    elim (cases_le 1 (greatest (λ (w : Write). w.latency) (row_at b n).writes)) [
      | inl some ↦ omega (arith, done-late b s n some)
      | inr none ↦ omega arith
    ]
