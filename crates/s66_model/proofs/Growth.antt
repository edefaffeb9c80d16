-- Totals are small: each instruction adds at most 104 cycles, if no entry is above 100.
use Rattle.std.proofs.Common.{length, ◌*◌, ℕ, sym, true≢false, ◌-◌, ◌+◌, ◌%◌, ◌≤◌, ◌<◌, ◌≡◌, Bool, cond, ◌&&◌, max, List, [], ◌∷◌, refl, arith, inl, inr, eqb, map, ◌⊎◌}
use Rattle.std.proofs.lemmas.Bool.{and_parts, cond_both, cases_Bool, cond-true, cond-false}
use Rattle.s66_isa.specs.{Reg, greatest, Among, Row, Write, has_reg, memory_pair, IsInRange, held_latency}
use Rattle.s66_isa.proofs.Lists.{greatest-le-greatest, greatest-le, greatest-shift}
use Rattle.s66_isa.proofs.GoodRows.{row-good}
use Rattle.s66_model.specs.{fits_at, row_at, point_of, points_after, total_of, Problem, Point, ResultAt, done_at, done_of, last_done, writes_reg, end_of, total, parcel_of, slot_of, issue_of, start_of}
use Rattle.s66_model.specs.{readers_wait, result_at, free_after, point}
use Rattle.s66_model.proofs.Issue.{issue-late, issue-is, can_issue-is, done_of-le-total, can_issue-past}

pub held-le : (ds : List ResultAt) → greatest (λ (d : ResultAt). cond d.held d.time 0) ds ≤ greatest (λ (d : ResultAt). d.time) ds
held-le ds =
    greatest-le-greatest (λ (d : ResultAt). cond d.held d.time 0) (λ (d : ResultAt). d.time) (λ d. cond_both d.held d.time 0 (λ x. x ≤ d.time) (λ _. omega arith) (λ _. omega arith)) ds

issue-le : (b : Problem) (s : List Point) (r : Row) → issue_of b s r ≤ max (slot_of s r.parcels) (total s)
issue-le b s r =
    let t : ℕ = max (slot_of s r.parcels) (total s) in
    (issue-is b s r).least t (omega arith) (can_issue-is b s r t (can_issue-past b s r t (omega arith)))

last-le : (r : Reg) (s : List Point) → last_done r s ≤ done_of s r
last-le r [] = omega arith
last-le r (p ∷ s) =
    cond_both (writes_reg r p) (done_at p r) (last_done r s) (λ x. x ≤ max (done_at p r) (done_of s r)) (λ _. omega arith) (λ _. omega (arith, last-le r s))

-- every point is within the total, and of few parcels
pub record AreSmall (s : List Point) : Type 0 where
  pub starts : greatest (λ (p : Point). max p.issue p.start + 1) s ≤ total s
  pub parcels : greatest (λ (p : Point). p.row.parcels) s ≤ 2

pub fits_at-le : (q len : ℕ) → fits_at q len ≤ q + 1
fits_at-le q len = cond_both (eqb len 2 && eqb (q % 4) 3) (q + 1) q (λ x. x ≤ q + 1) (λ _. omega arith) (λ _. omega arith)

pub fits_at-ge : (q len : ℕ) → q ≤ fits_at q len
fits_at-ge q len = cond_both (eqb len 2 && eqb (q % 4) 3) (q + 1) q (λ x. q ≤ x) (λ _. omega arith) (λ _. omega arith)

-- before the first instruction the next one begins in parcel 0
pub none-first : (len : ℕ) → fits_at 0 len ≡ 0
none-first len =
    cond_both (eqb len 2 && eqb (0 % 4) 3) 1 0 (λ x. x ≡ 0) (λ e. absurd (true≢false (sym (and_parts (eqb len 2) (eqb (0 % 4) 3) e).1))) (λ _. refl)

pub slot-le : (s : List Point) (len : ℕ) → AreSmall s → slot_of s len ≤ total s + 3
slot-le [] len small = omega arith
slot-le (p ∷ s) len small =
    let at : parcel_of (p ∷ s) len ≡ fits_at (p.parcel + p.row.parcels) len = refl in
    omega (arith, small.starts, small.parcels, at, fits_at-le (p.parcel + p.row.parcels) len)

waits-le : (s : List Point) (test : Point → Bool) → AreSmall s → greatest (λ (p : Point). cond (test p) (p.start + 1) 0) s ≤ total s
waits-le s test small =
    omega (arith, small.starts, greatest-le-greatest (λ (p : Point). cond (test p) (p.start + 1) 0) (λ (p : Point). max p.issue p.start + 1) (λ p. cond_both (test p) (p.start + 1) 0 (λ x. x ≤ max p.issue p.start + 1) (λ _. omega arith) (λ _. omega arith)) s)

pub start-le : (b : Problem) (s : List Point) (r : Row) → AreSmall s → start_of b s r ≤ total s + 3
unfolding start_of
start-le b s r small =
    omega (arith, issue-le b s r, slot-le s r.parcels small, greatest-le (λ x. last_done x s) (total s) r.reads (λ x _. omega (arith, last-le x s, done_of-le-total s x)), waits-le s (λ p. memory_pair p.row.memory r.memory) small)

pub results-le : (s : List Point) (start : ℕ) (ws : List Write) → AreSmall s → greatest (λ (w : Write). w.latency) ws ≤ 100 → start ≤ total s + 3 → greatest (λ (d : ResultAt). d.time) (map (result_at s start) ws) ≤ total s + 103
results-le s start [] small lat le = omega arith
results-le s start (w ∷ ws) small lat le =
    omega (arith, results-le s start ws small (omega arith) le, waits-le s (λ p. has_reg w.reg p.row.reads) small)

free-le : (start hold : ℕ) (ds : List ResultAt) (m : ℕ) → start + hold ≤ m → greatest (λ (d : ResultAt). d.time) ds ≤ m → free_after start hold ds ≤ m + 1
free-le start hold [] m h k = omega arith
free-le start hold (d ∷ ds) m h k = omega (arith, held-le (d ∷ ds))

-- one more instruction adds at most 104 cycles
pub last-le_total : (b : Problem) (s : List Point) (n : ℕ) (r : Row) → IsInRange r → AreSmall s → end_of (point b s n r) ≤ total s + 104
unfolding point
last-le_total b s n r good small =
    let start = start_of b s r in
    let le : start ≤ total s + 3 = start-le b s r small in
    let latencies : greatest (λ (w : Write). w.latency) r.writes ≤ 100 = greatest-le (λ (w : Write). w.latency) 100 r.writes (λ w among. (good.latencies w among).1) in
    let results = results-le s start r.writes small latencies le in
    omega (arith, good.hold, free-le start r.hold (map (result_at s start) r.writes) (total s + 103) (omega (arith, good.hold)) results)

-- a result that is held is done no sooner than its latency after the start
held-each : (s : List Point) (start m : ℕ) → 1 ≤ m → (w : Write) → m ≤ held_latency w → start + m ≤ cond w.held (max (start + w.latency) (readers_wait s w.reg)) 0
held-each s start m some w h =
    elim (cases_Bool w.held) [
      | inl is ↦ omega (arith, cond-true {A = ℕ} w.held w.latency 0 is, cond-true {A = ℕ} w.held (max (start + w.latency) (readers_wait s w.reg)) 0 is)
      | inr is ↦ absurd (omega (arith, cond-false {A = ℕ} w.held w.latency 0 is))
    ]

-- the unit is free no sooner than a hold after the start
pub free-ge : (s : List Point) (start hold : ℕ) (ws : List Write) → 1 ≤ hold → (ws ≡ []) ⊎ (hold ≡ greatest held_latency ws) → start + hold + 1 ≤ free_after start hold (map (result_at s start) ws)
free-ge s start hold [] some h = omega arith
free-ge s start hold (w ∷ ws) some h =
    elim h [
      | inl none ↦ absurd (cc)
      | inr is ↦ omega (arith, greatest-shift held_latency (λ (d : ResultAt). cond d.held d.time 0) (result_at s start) start hold (held-each s start hold some) (w ∷ ws) some (omega (arith, is)))
    ]

-- nothing issues before its parcel
parcel-le-slot : (s : List Point) (len : ℕ) → greatest (λ (p : Point). p.parcel - p.issue) s ≡ 0 → parcel_of s len ≤ slot_of s len
parcel-le-slot [] len none = omega (arith, none-first len)
parcel-le-slot (p ∷ s) len none =
    let at : parcel_of (p ∷ s) len ≡ fits_at (p.parcel + p.row.parcels) len = refl in
    omega (arith, at, fits_at-ge (p.parcel + p.row.parcels) len)

pub start-ge : (b : Problem) (s : List Point) (r : Row) → issue_of b s r ≤ start_of b s r
unfolding start_of
start-ge b s r = omega arith

-- the times of a point are in order
pub point-ordered : (b : Problem) (s : List Point) (n : ℕ) (r : Row) → IsInRange r → greatest (λ (p : Point). p.parcel - p.issue) s ≡ 0 →
    ((point b s n r).parcel ≤ (point b s n r).issue) × ((point b s n r).issue ≤ (point b s n r).start) × ((point b s n r).start < (point b s n r).free)
unfolding point
point-ordered b s n r good early =
    (omega (arith, parcel-le-slot s r.parcels early, issue-late b s r), start-ge b s r, omega (arith, free-ge s (start_of b s r) r.hold r.writes good.hold.0 good.unit))

-- an instruction starts before it is done
before_last : (s : List Point) (start hold : ℕ) (ws : List Write) → ((w : Write) → Among w ws → 1 ≤ w.latency) → start + 1 ≤ max (free_after start hold (map (result_at s start) ws)) (greatest (λ (d : ResultAt). d.time) (map (result_at s start) ws))
before_last s start hold [] long = omega arith
before_last s start hold (w ∷ ws) long = omega (arith, long w (inl refl))

start-before : (b : Problem) (s : List Point) (n : ℕ) → max (point_of b s n).issue (point_of b s n).start + 1 ≤ end_of (point_of b s n)
unfolding point start_of
start-before b s n =
    let r : Row = row_at b n in
    let good : IsInRange r = row-good b.profile _ in
    omega (arith, before_last s (start_of b s r) r.hold r.writes (λ w among. (good.latencies w among).0))

small-step : (b : Problem) (s : List Point) (n : ℕ) → AreSmall s → AreSmall (point_of b s n ∷ s)
unfolding point
small-step b s n small =
    let good : IsInRange (row_at b n) = row-good b.profile _ in
    record {
      starts = omega (arith, small.starts, start-before b s n);
      parcels = omega (arith, small.parcels, good.parcels.1);
    }

points_after-le : (b : Problem) (s : List Point) (ns : List ℕ) → AreSmall s → total (points_after b s ns) ≤ total s + 104 * length ns
points_after-le b s [] small = omega arith
points_after-le b s (n ∷ ns) small =
    omega (arith, points_after-le b (point_of b s n ∷ s) ns (small-step b s n small), last-le_total b s n (row_at b n) (row-good b.profile _) small)

-- whatever the numbers are, also those that no instruction has
pub total-le : (b : Problem) (order : List ℕ) → total_of b order ≤ 104 * length order
total-le b order = omega (arith, points_after-le b [] order (record { starts = omega arith; parcels = omega arith }))
