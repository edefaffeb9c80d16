-- What holds of the points that a beginning keeps: their times fit into a word, and what the last one leaves.
use Rattle.std.proofs.Common.{ℕ, ◌+◌, ◌-◌, ◌*◌, ◌≤◌, ◌<◌, ◌≡◌, max, List, [], ◌∷◌, length, get_or, reverse, refl, sym, ap, subst, arith}
use Rattle.std.proofs.lemmas.Bool.{cond_both}
use Rattle.std.proofs.lemmas.List.{length-reverse}
use Rattle.s66_isa.specs.{Kind, Reg, greatest, weigh, Row, Write, same_kind, IsInRange, BLOCK_LIMIT}
use Rattle.s66_isa.proofs.Lists.{greatest-le}
use Rattle.s66_model.specs.{Problem, Point, end_of, total, done_of, last_done, row_at, point_of, points_after, rest_busy}
use Rattle.s66_model.proofs.Growth.{AreSmall, point-ordered, total-le}
use Rattle.s66_model.proofs.PointTimes.{good-at, points_after-length, point_of-row, issue-le-start, hold-le-free}
use Rattle.s66_model.proofs.ChainBound.{last-is_greatest}
use Rattle.s66_checker.specs.{TOTAL_LIMIT, AreTimed}
use Rattle.s66_checker.proofs.Reversed.{greatest-reverse, reverse-last}

-- OF THE NEWEST FIRST

record AreEarly (s : List Point) : Type 0 where
  small : AreSmall s
  -- none issues before its parcel
  packed : greatest (λ (p : Point). p.parcel - p.issue) s ≡ 0

early-step : (b : Problem) (s : List Point) (n : ℕ) → AreEarly s → AreEarly (point_of b s n ∷ s)
early-step b s n early =
    record {
      small =
          record {
            starts = omega (arith, early.small.starts, issue-le-start b s n, hold-le-free b s n);
            parcels = omega (arith, early.small.parcels, (good-at b n).parcels.1, ap (λ (r : Row). r.parcels) (point_of-row b s n));
          };
      packed = omega (arith, early.packed, (point-ordered b s n (row_at b n) (good-at b n) early.packed).0);
    }

early-run : (b : Problem) (s : List Point) (ns : List ℕ) → AreEarly s → AreEarly (points_after b s ns)
early-run b s [] early = early
early-run b s (n ∷ ns) early = early-run b (point_of b s n ∷ s) ns (early-step b s n early)

early : (xs : List Point) → AreTimed xs → AreEarly (reverse xs)
early xs timed =
    subst (λ s. AreEarly s) (sym timed.timed)
    (early-run timed.problem [] timed.numbers (record { small = record { starts = omega arith; parcels = omega arith }; packed = refl }))

pub timed-small : (xs : List Point) → AreTimed xs → AreSmall (reverse xs)
timed-small xs timed = (early xs timed).small

timed-packed : (xs : List Point) → AreTimed xs → greatest (λ (p : Point). p.parcel - p.issue) (reverse xs) ≡ 0
timed-packed xs timed = (early xs timed).packed

-- OF THE OLDEST FIRST

pub timed-few : (xs : List Point) → AreTimed xs → length xs ≤ BLOCK_LIMIT
timed-few xs timed =
    omega (arith, length-reverse xs, ap length timed.timed, points_after-length timed.problem [] timed.numbers, timed.few)

pub timed-total : (xs : List Point) → AreTimed xs → total xs ≤ TOTAL_LIMIT
timed-total xs timed =
    omega (arith, greatest-reverse end_of xs, ap total timed.timed, total-le timed.problem timed.numbers, timed.few)

-- the latest writer of a register is done last
pub timed-latest : (xs : List Point) → AreTimed xs → (r : Reg) → last_done r (reverse xs) ≡ done_of (reverse xs) r
timed-latest xs timed r =
    subst (λ s. last_done r s ≡ done_of s r) (sym timed.timed) (last-is_greatest timed.problem timed.numbers r)

-- THE LAST POINT

pub last-issue : (xs : List Point) (p : Point) → AreTimed xs → 0 < length xs → p ≡ get_or xs (length xs - 1) p → p.issue + 1 ≤ TOTAL_LIMIT
last-issue xs p timed some is =
    let newest = reverse-last xs p some is in
    omega (arith, (timed-small xs timed).starts, ap (greatest (λ (q : Point). max q.issue q.start + 1)) newest, greatest-reverse end_of xs, timed-total xs timed)

pub last-parcels : (xs : List Point) (p : Point) → AreTimed xs → 0 < length xs → p ≡ get_or xs (length xs - 1) p → p.row.parcels ≤ 2
last-parcels xs p timed some is =
    omega (arith, (timed-small xs timed).parcels, ap (greatest (λ (q : Point). q.row.parcels)) (reverse-last xs p some is))

pub last-packed : (xs : List Point) (p : Point) → AreTimed xs → 0 < length xs → p ≡ get_or xs (length xs - 1) p → p.parcel ≤ p.issue
last-packed xs p timed some is =
    omega (arith, timed-packed xs timed, ap (greatest (λ (q : Point). q.parcel - q.issue)) (reverse-last xs p some is))

-- HOW LONG UNITS STILL WORK

rest-le : (kind : Kind) (t : ℕ) (p : Point) → rest_busy kind t p ≤ end_of p
rest-le kind t p = cond_both (same_kind p.row.kind kind) (p.free - t) 0 (λ x. x ≤ end_of p) (λ _. omega arith) (λ _. omega arith)

work-le : (kind : Kind) (t : ℕ) (xs : List Point) → total xs ≤ TOTAL_LIMIT → weigh (rest_busy kind t) xs ≤ TOTAL_LIMIT * length xs
work-le kind t [] le = omega arith
work-le kind t (p ∷ xs) le = omega (arith, rest-le kind t p, work-le kind t xs (omega arith))

pub timed-work : (kind : Kind) (t : ℕ) (xs : List Point) → AreTimed xs → weigh (rest_busy kind t) xs ≤ TOTAL_LIMIT * BLOCK_LIMIT
timed-work kind t xs timed = omega (arith, work-le kind t xs (timed-total xs timed), timed-few xs timed)

-- no result of a row takes more than 100 minor cycles
pub latencies-le : (r : Row) → IsInRange r → greatest (λ (w : Write). w.latency) r.writes ≤ 100
latencies-le r good = greatest-le (λ (w : Write). w.latency) 100 r.writes (λ w among. (good.latencies w among).1)
