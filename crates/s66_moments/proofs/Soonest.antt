-- A moment comes no sooner than if its instruction came next, and no later than the total.
use Rattle.std.proofs.Common.{ℕ, ◌+◌, ◌≤◌, ◌≡◌, Bool, true, false, cond, ◌&&◌, List, [], ◌∷◌, ◌++◌, ap, arith, eqb, subst}
use Rattle.s66_isa.specs.{Reg, greatest, tally, Row, has_reg, memory_pair}
use Rattle.s66_model.specs.{Problem, Point, row_at, done_at, done_of, last_done, end_of, slot_of, busy_at, point_of, points_after, points_of, total_of, IsLegal, is_remaining, place_in_word}
use Rattle.s66_model.proofs.Remaining.{remaining-parts}
use Rattle.s66_model.proofs.Issue.{done_at-le}
use Rattle.s66_model.proofs.PointTimes.{good-at, points_after-append, greatest-stays, next-le-issue, issue-le-start, hold-le-free, point_of-row}
use Rattle.s66_model.proofs.PushedBoth.{FindsBelow, pad, slot-is, issue-below, start-below, done-below, free-below}
use Rattle.s66_model.proofs.ChainBound.{last-is_greatest}
use Rattle.s66_moments.specs.{Stage, Issue, Start, Done, Free, At, stage_time, time_of, soonest}
use Rattle.s66_moments.proofs.Placed.{placed, points-split, time_at-placed}
use Rattle.s66_moments.proofs.FactLaws.{later-place}

-- WHAT COMES LATER FINDS NO LESS TO WAIT FOR

pad_small : (len phase : ℕ) → pad len phase ≤ 1
pad_small len phase = bit (eqb len 2 && eqb phase 3)
  where
    bit : (t : Bool) → cond {A = ℕ} t 1 0 ≤ 1
    bit true = omega arith
    bit false = omega arith

slot-step : (b : Problem) (s : List Point) (k len : ℕ) → slot_of s len ≤ slot_of (point_of b s k ∷ s) len
slot-step b s k len =
    omega (
      arith,
      slot-is s len,
      pad_small len (place_in_word s),
      slot-is (point_of b s k ∷ s) len,
      next-le-issue b s k,
      (good-at b k).parcels.0,
      ap (λ (r : Row). r.parcels) (point_of-row b s k),
    )

slot-stays : (b : Problem) (s : List Point) (ns : List ℕ) (len : ℕ) → slot_of s len ≤ slot_of (points_after b s ns) len
slot-stays b s [] len = omega arith
slot-stays b s (k ∷ ns) len = omega (arith, slot-step b s k len, slot-stays b (point_of b s k ∷ s) ns len)

tally-stays : (b : Problem) (test : Point → Bool) (s : List Point) (ns : List ℕ) → tally test s ≤ tally test (points_after b s ns)
tally-stays b test s [] = omega arith
tally-stays b test s (k ∷ ns) = omega (arith, tally-stays b test (point_of b s k ∷ s) ns)

-- NO SOONER THAN NEXT

module _ (b : Problem) (prefix front : List ℕ) (n : ℕ) where
  abbrev now : List Point
  now = points_of b prefix

  abbrev later : List Point
  later = points_after b now front

  last-later : (x : Reg) → last_done x later ≡ done_of later x
  last-later x = subst (λ s. last_done x s ≡ done_of s x) (points_after-append b [] prefix front) (last-is_greatest b (prefix ++ front) x)

  sooner : FindsBelow b now later (point_of b later n).issue (point_of b later n).start n
  sooner = record {
    writers = λ w _. omega (arith, greatest-stays b (λ (p : Point). done_at p w.reg) now front);
    busy = λ t _. omega (arith, tally-stays b (busy_at (row_at b n).kind t) now front);
    operands = λ x _. omega (arith, greatest-stays b (λ (p : Point). done_at p x) now front);
    memory = omega (arith, greatest-stays b (λ (p : Point). cond (memory_pair p.row.memory (row_at b n).memory) (p.start + 1) 0) now front);
    readers = λ w _. omega (arith, greatest-stays b (λ (p : Point). cond (has_reg w.reg p.row.reads) (p.start + 1) 0) now front);
  }

  slot-sooner : slot_of now (row_at b n).parcels ≤ slot_of later (row_at b n).parcels
  slot-sooner = slot-stays b now front (row_at b n).parcels

  stage-sooner : (stage : Stage) → stage_time stage (point_of b now n) ≤ stage_time stage (point_of b later n)
  stage-sooner Issue = issue-below b now later n sooner slot-sooner
  stage-sooner Start = start-below b now later n sooner slot-sooner (last-is_greatest b prefix) last-later
  stage-sooner (Done x) = done-below b now later n sooner slot-sooner (last-is_greatest b prefix) last-later x
  stage-sooner Free = free-below b now later n sooner slot-sooner (last-is_greatest b prefix) last-later

stage-le-end : (b : Problem) (s : List Point) (n : ℕ) (stage : Stage) → stage_time stage (point_of b s n) ≤ end_of (point_of b s n)
stage-le-end b s n Issue = omega (arith, issue-le-start b s n, hold-le-free b s n)
stage-le-end b s n Start = omega (arith, hold-le-free b s n)
stage-le-end b s n (Done x) = done_at-le x (point_of b s n)
stage-le-end b s n Free = omega arith

module _ (b : Problem) (order : List ℕ) (legal : IsLegal b.block order) where
  module _ (prefix rest : List ℕ) (is : order ≡ prefix ++ rest) where
    pub soonest-le : (n : ℕ) (stage : Stage) → is_remaining b.block prefix n ≡ true → soonest b prefix n stage ≤ time_of b order (At n stage)
    soonest-le n stage remains =
        let (low, high, new) = remaining-parts b.block prefix n remains in
        let (mid, more, here) = later-place b order legal prefix rest is n new low high in
        let points : points_of b (prefix ++ mid) ≡ points_after b (points_of b prefix) mid = points_after-append b [] prefix mid in
        omega (
          arith,
          time_at-placed b order legal (prefix ++ mid) more n (stage_time stage) here,
          ap (λ s. stage_time stage (point_of b s n)) points,
          stage-sooner b prefix mid n stage,
        )

    pub total-stays : total_of b prefix ≤ total_of b order
    total-stays =
        omega (arith, ap (total_of b) is, ap (λ s. greatest end_of s) (points_after-append b [] prefix rest), greatest-stays b end_of (points_of b prefix) rest)

  pub stage-le-total : (n : ℕ) (stage : Stage) → is_remaining b.block [] n ≡ true → time_of b order (At n stage) ≤ total_of b order
  stage-le-total n stage remains =
      let (low, high, new) = remaining-parts b.block [] n remains in
      let (front, rest, is) = placed b order legal n low high in
      let p : Point = point_of b (points_of b front) n in
      omega (
        arith,
        time_at-placed b order legal front rest n (stage_time stage) is,
        stage-le-end b (points_of b front) n stage,
        ap (λ s. greatest end_of s) (points-split b order legal front rest n is),
        greatest-stays b end_of (p ∷ points_of b front) rest,
      )
