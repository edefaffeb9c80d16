-- The point at each position of an order is that of its number, placed after those in front of it.
use Rattle.std.proofs.Common.{ℕ, ◌+◌, ◌≤◌, ◌<◌, ◌≡◌, List, [], ◌∷◌, ◌++◌, refl, sym, ap, arith, length, length-take, take, drop, get_or, map, reverse, ◌∙◌, take-append-drop}
use Rattle.std.proofs.lemmas.List.{get_or-map, get_or_append_left, length-map, length-reverse, map_push, reverse-append, take_more}
use Rattle.std.proofs.Math.Seq.{get_or-append_seam}
use Rattle.s66_isa.specs.{BLOCK_LIMIT}
use Rattle.s66_model.specs.{Problem, Point, row_at, point_of, points_after, points_of, total}
use Rattle.s66_model.proofs.Growth.{total-le}
use Rattle.s66_model.proofs.PointTimes.{point_of-number, point_of-row, points_after-append, points_after-length, hold-le-free}
use Rattle.s66_model.proofs.PointTimes as points
use Rattle.s66_time.specs.{TOTAL_LIMIT, Times, point_at, no_point, InTurn, times_of, times_in}
use Rattle.s66_time.specs.TimedOrder.{TimedOrder}
use Rattle.s66_time.proofs.Clocks.{early-point_of, in-turn}

-- ONE MORE NUMBER

pub points-push : (b : Problem) (ns : List ℕ) (i : ℕ) → i < length ns → points_of b (take (i + 1) ns) ≡ point_of b (points_of b (take i ns)) (get_or ns i 0) ∷ points_of b (take i ns)
points-push b ns i lt = ap (points_of b) (take_more ns i 0 lt) ∙ points_after-append b [] (take i ns) (get_or ns i 0 ∷ [])

pub front-turn : (b : Problem) (ns : List ℕ) (i : ℕ) → length ns ≤ BLOCK_LIMIT → InTurn (points_of b (take i ns))
front-turn b ns i few = in-turn b (take i ns) (omega (arith, length-take i ns, few))

pub times-push : (p : Point) (s : List Point) → times_in (p ∷ s) ≡ times_in s ++ times_of p ∷ []
times-push p s = ap (map times_of) (reverse-append (p ∷ []) s) ∙ map_push times_of (reverse s) p

-- THE POINT AT A POSITION

-- earlier points keep their positions
points-stay : (b : Problem) (s : List Point) (ns : List ℕ) (i : ℕ) (d : Point) → i < length s → get_or (reverse (points_after b s ns)) i d ≡ get_or (reverse s) i d
points-stay b s [] i d lt = refl
points-stay b s (n ∷ ns) i d lt =
    let p : Point = point_of b s n in
    points-stay b (p ∷ s) ns i d (omega arith) ∙ ap (λ (xs : List Point). get_or xs i d) (reverse-append (p ∷ []) s)
    ∙ get_or_append_left (reverse s) (p ∷ []) d i (omega (arith, length-reverse s))

position-is : (b : Problem) (ns : List ℕ) (i : ℕ) (d : Point) → i < length ns → get_or (reverse (points_of b ns)) i d ≡ point_of b (points_of b (take i ns)) (get_or ns i 0)
position-is b ns i d lt =
    let s : List Point = points_of b (take i ns) in
    let p : Point = point_of b s (get_or ns i 0) in
    let len : length s ≡ i = omega (arith, points_after-length b [] (take i ns), length-take i ns) in
    let split : points_of b ns ≡ points_after b (p ∷ s) (drop (i + 1) ns) =
    ap (points_of b) (sym (take-append-drop (i + 1) ns)) ∙ points_after-append b [] (take (i + 1) ns) (drop (i + 1) ns)
    ∙ ap (λ (t : List Point). points_after b t (drop (i + 1) ns)) (points-push b ns i lt) in
    ap (λ (t : List Point). get_or (reverse t) i d) split ∙ points-stay b (p ∷ s) (drop (i + 1) ns) i d (omega (arith, len))
    ∙ ap (λ (t : List Point). get_or t i d) (reverse-append (p ∷ []) s) ∙ ap (λ k. get_or (reverse s ++ p ∷ []) k d) (sym (length-reverse s ∙ len))
    ∙ get_or-append_seam (reverse s) p [] d

pub point-at : (t : TimedOrder) (i : ℕ) → i < length t.numbers → point_at t i ≡ point_of t.problem (points_of t.problem (take i t.numbers)) (get_or t.numbers i 0)
point-at t i lt = position-is t.problem t.numbers i (no_point t.problem.profile) lt

pub number-at : (t : TimedOrder) (i : ℕ) → i < length t.numbers → (point_at t i).number ≡ get_or t.numbers i 0
number-at t i lt = ap (λ (p : Point). p.number) (point-at t i lt) ∙ point_of-number t.problem (points_of t.problem (take i t.numbers)) (get_or t.numbers i 0)

pub row-at : (t : TimedOrder) (i : ℕ) → i < length t.numbers → (point_at t i).row ≡ row_at t.problem (get_or t.numbers i 0)
row-at t i lt = ap (λ (p : Point). p.row) (point-at t i lt) ∙ point_of-row t.problem (points_of t.problem (take i t.numbers)) (get_or t.numbers i 0)

pub issue-le-start : (t : TimedOrder) (i : ℕ) → i < length t.numbers → (point_at t i).issue ≤ (point_at t i).start
issue-le-start t i lt =
    let at = point-at t i lt in
    omega (
      arith,
      ap (λ (p : Point). p.issue) at,
      ap (λ (p : Point). p.start) at,
      points.issue-le-start t.problem (points_of t.problem (take i t.numbers)) (get_or t.numbers i 0),
    )

-- ITS TIMES

-- those that are kept
pub times-at : (t : TimedOrder) (i : ℕ) (d : Times) → i < length t.numbers → get_or (times_in (points_of t.problem t.numbers)) i d ≡ times_of (point_at t i)
times-at t i d lt =
    let s : List Point = points_of t.problem t.numbers in
    get_or-map times_of (reverse s) i (no_point t.problem.profile) d (omega (arith, length-reverse s, points_after-length t.problem [] t.numbers))

pub times-length : (b : Problem) (ns : List ℕ) → length (times_in (points_of b ns)) ≡ length ns
times-length b ns =
    omega (arith, length-map (reverse (points_of b ns)) times_of, length-reverse (points_of b ns), points_after-length b [] ns)

-- one after the other
pub parcel-le-issue : (t : TimedOrder) (i : ℕ) → length t.numbers ≤ BLOCK_LIMIT → i < length t.numbers → (point_at t i).parcel ≤ (point_at t i).issue
parcel-le-issue t i few lt =
    let at = point-at t i lt in
    omega (
      arith,
      ap (λ (p : Point). p.parcel) at,
      ap (λ (p : Point). p.issue) at,
      early-point_of t.problem (points_of t.problem (take i t.numbers)) (get_or t.numbers i 0) (front-turn t.problem t.numbers i few).parcel,
    )

pub start-lt-free : (t : TimedOrder) (i : ℕ) → i < length t.numbers → (point_at t i).start < (point_at t i).free
start-lt-free t i lt =
    let at = point-at t i lt in
    omega (
      arith,
      ap (λ (p : Point). p.start) at,
      ap (λ (p : Point). p.free) at,
      hold-le-free t.problem (points_of t.problem (take i t.numbers)) (get_or t.numbers i 0),
    )

pub free-small : (t : TimedOrder) (i : ℕ) → length t.numbers ≤ BLOCK_LIMIT → i < length t.numbers → (point_at t i).free ≤ TOTAL_LIMIT
free-small t i few lt =
    omega (
      arith,
      ap (λ (p : Point). p.free) (point-at t i lt),
      ap total (points-push t.problem t.numbers i lt),
      total-le t.problem (take (i + 1) t.numbers),
      length-take (i + 1) t.numbers,
    )

pub total-small : (b : Problem) (ns : List ℕ) → length ns ≤ BLOCK_LIMIT → total (points_of b ns) ≤ TOTAL_LIMIT
total-small b ns few = omega (arith, total-le b ns)
