-- The rule of each stretch forbids a minor cycle less.
use Rattle.std.proofs.Common.{ℕ, ◌+◌, ◌-◌, ◌≤◌, ◌<◌, ◌≡◌, ◌∙◌, ◌==◌, max, nat_lt, true, false, true≢false, List, [], ◌∷◌, ◌++◌, flat_map, length, map, refl, ap, sym, subst, arith, inl, inr, eq-eqb}
use Rattle.std.proofs.Common.{eqb-true, ltb-true, lt-ltb}
use Rattle.std.proofs.lemmas.Bool.{and_from, and_parts, cases_Bool, cond-true, cond-false, eqb-false}
use Rattle.s66_isa.specs.{Kind, BLOCK_LIMIT, Reg, Among, greatest, tally, Write, has_reg, memory_pair, same_kind}
use Rattle.s66_isa.proofs.Lists.{cases_le, le-greatest, among-map, split-among}
use Rattle.s66_model.specs.{Problem, Point, ResultAt, CanIssue, IsIssue, busy_at, copies, done_at, done_of, last_done, memory_wait, point, point_of, points_after, points_of, readers_wait, result_at}
use Rattle.s66_model.specs.{slot_of, start_of}
use Rattle.s66_model.proofs.Issue.{issue-is}
use Rattle.s66_model.proofs.PointTimes.{point_of-number}
use Rattle.s66_time.specs.{InTurn}
use Rattle.s66_time.proofs.Clocks.{in-turn}
use Rattle.s66_why.specs.{Cause, Writes, Takes, References, Reads, Holder, Conflict, First, Second, Third, Stretch, lets_go, holder, nobody, soonest, first_holder, second_holder, third_holder}
use Rattle.s66_why.specs.{holder_or_else, slot, stretch, first_stretch, second_stretch, third_stretch, stretches_at, KeepsFromIssue, IsKeptBack, IsForbidden, AreFromOne}
use Rattle.s66_why.proofs.AmongParts.{among-flat, greatest-met, greatest-passes, tally-le}
use Rattle.s66_why.proofs.Found.{ArePositive, NoneDone, found-or-none, or_else-first, or_else-second, soonest-is}

-- THE POINTS OF NUMBERS

-- what holds of their numbers holds of those of the points
pub points-met : (b : Problem) (P : ℕ → Type 0) (s : List Point) (ns : List ℕ) → ((q : Point) → Among q s → P q.number) → ((n : ℕ) → Among n ns → P n) →
    (q : Point) → Among q (points_after b s ns) → P q.number
points-met b P s [] old new = old
points-met b P s (n ∷ ns) old new =
    points-met b P (point_of b s n ∷ s) ns
    (λ q among.
    elim among [
      | inl e ↦ subst P (sym (ap (λ (p : Point). p.number) e ∙ point_of-number b s n)) (new n (inl refl))
      | inr past ↦ old q past
    ])
    (λ m among. new m (inr among))

pub positive-after : (b : Problem) (s : List Point) (ns : List ℕ) → ArePositive s → AreFromOne ns → ArePositive (points_after b s ns)
positive-after b s ns positive from = points-met b (λ n. 1 ≤ n) s ns positive from

-- what Timing says of a point, after the points s
pub record IsPlaced (b : Problem) (s : List Point) (p : Point) : Type 0 where
  pub issue : IsIssue b s p.row p.issue
  pub start : p.start ≡ max p.issue (max (greatest (λ r. last_done r s) p.row.reads) (memory_wait s p.row))
  pub results : p.results ≡ map (result_at s p.start) p.row.writes
  pub slot : slot s p ≡ slot_of s p.row.parcels

point-slot : (b : Problem) (s : List Point) (n : ℕ) → slot s (point_of b s n) ≡ slot_of s (point_of b s n).row.parcels
unfolding point
point-slot b [] n = refl
point-slot b (q ∷ s) n = refl

pub placed : (b : Problem) (s : List Point) (n : ℕ) → IsPlaced b s (point_of b s n)
unfolding point start_of
placed b s n =
    record {
      issue = issue-is b s (point_of b s n).row;
      start = refl;
      results = refl;
      slot = point-slot b s n;
    }

-- HELD

abbrev pub IsHeldBy : Problem → List Point → Point → Conflict → (from to : ℕ) → Holder → Type 0
IsHeldBy b s p conflict from to h =
    (q : Point) × Among q s × (q.number ≡ h.number) × IsKeptBack b s p conflict from to h.cause q × (lets_go h.cause to q ≡ true)

-- FIRST ORDER

-- what is not free by t takes a unit until after the next minor cycle, if nothing is free only then
busy-on : (kind : Kind) (t : ℕ) (q : Point) → lets_go (Takes kind) (t + 1) q ≡ false → busy_at kind t q ≡ true → busy_at kind (t + 1) q ≡ true
busy-on kind t q not busy =
    let parts = and_parts (same_kind q.row.kind kind) (nat_lt t q.free) busy in
    let past : t < q.free = ltb-true t q.free parts.1 in
    elim (cases_Bool (q.free == t + 1)) [
      | inl here ↦ absurd (true≢false (sym (and_from (same_kind q.row.kind kind) (q.free == t + 1) parts.0 here) ∙ not))
      | inr apart ↦
          let differ : q.free ≡ t + 1 → ⊥ = eqb-false q.free (t + 1) apart in
          let later : t + 1 < q.free = grind (arith, past, differ) in
          and_from (same_kind q.row.kind kind) (nat_lt (t + 1) q.free) parts.0 (lt-ltb (t + 1) q.free later)
    ]

busy-before : (kind : Kind) (t : ℕ) (q : Point) → lets_go (Takes kind) (t + 1) q ≡ true → busy_at kind t q ≡ true
busy-before kind t q lets =
    let parts = and_parts (same_kind q.row.kind kind) (q.free == t + 1) lets in
    and_from (same_kind q.row.kind kind) (nat_lt t q.free) parts.0 (lt-ltb t q.free (omega (arith, eqb-true q.free (t + 1) parts.1)))

-- no result is done only at t + 1, so that what is done by then is done by t
done-before : (s : List Point) (p : Point) (t : ℕ) → NoneDone (t + 1) s (map (λ (w : Write). w.reg) p.row.writes) →
    ((q : Point) → Among q s → (w : Write) → Among w p.row.writes → done_at q w.reg ≤ t + 1) → (q : Point) → Among q s → (w : Write) → Among w p.row.writes → done_at q w.reg ≤ t
done-before s p t none by q in_s w among =
    let apart : done_at q w.reg ≡ t + 1 → ⊥ = eqb-false (done_at q w.reg) (t + 1) (none w.reg (among-map (λ (v : Write). v.reg) w p.row.writes among) q in_s) in
    let most : done_at q w.reg ≤ t + 1 = by q in_s w among in
    grind (arith, apart, most)

pub first-held : (b : Problem) (s : List Point) (p : Point) (t : ℕ) → p.issue ≡ t + 1 → IsPlaced b s p → ArePositive s → slot s p ≤ t →
    IsHeldBy b s p First (slot s p) (t + 1) (first_holder s p)
first-held b s p t is pl positive late =
    let no : CanIssue b s p.row t → ⊥ = λ can. omega (arith, is, pl.issue.least t (omega (arith, pl.slot, late)) can) in
    let regs : List Reg = map (λ (w : Write). w.reg) p.row.writes in
    let results : Holder = soonest nobody (t + 1) s regs in
    let unit : Holder = holder (Takes p.row.kind) (t + 1) s in
    let passes : CanIssue b s p.row (t + 1) = subst (CanIssue b s p.row) is pl.issue.passes in
    let sooner : t + 1 - 1 ≡ t = omega arith in
    let kept : (cause : Cause) (q : Point) → KeepsFromIssue b s p t cause q → IsKeptBack b s p First (slot s p) (t + 1) cause q =
    λ cause q keeps. (pl.slot, sym is, subst (λ k. CanIssue b s p.row k → ⊥) (sym sooner) no, subst (λ k. KeepsFromIssue b s p k cause q) (sym sooner) keeps) in
    let here : (g : Holder) → g ≡ first_holder s p → IsHeldBy b s p First (slot s p) (t + 1) g → IsHeldBy b s p First (slot s p) (t + 1) (first_holder s p) =
    λ g e held. subst (IsHeldBy b s p First (slot s p) (t + 1)) e held in
    let named : first_holder s p ≡ holder_or_else results unit = ap (λ k. holder_or_else (soonest nobody k s regs) (holder (Takes p.row.kind) k s)) is in
    elim (soonest-is (t + 1) s regs nobody refl positive) [
      | inr found ↦
          let f = found.found in
          let done : done_at f.point found.reg ≡ t + 1 = eqb-true (done_at f.point found.reg) (t + 1) f.lets in
          here (holder (Writes found.reg) (t + 1) s)
          (sym (named ∙ or_else-first results unit (omega (arith, ap (λ (h : Holder). h.number) found.is, f.number, f.some)) ∙ found.is))
          (f.point, f.among, f.number, kept (Writes found.reg) f.point (found.listed, omega (arith, done)), f.lets)
      | inl (zero, z, none) ↦
          let before = done-before s p t none passes.1 in
          elim (found-or-none (Takes p.row.kind) (t + 1) s positive) [
            | inl f ↦
                let all : copies b p.row.kind ≤ tally (busy_at p.row.kind t) s =
                elim (cases_le (copies b p.row.kind) (tally (busy_at p.row.kind t) s)) [ inl most ↦ most | inr free ↦ absurd (no (free, before)) ] in
                here unit (sym (named ∙ or_else-second results unit zero)) (f.point, f.among, f.number, kept (Takes p.row.kind) f.point (refl, busy-before p.row.kind t f.point f.lets, eqb-true f.point.free (t + 1) (and_parts (same_kind f.point.row.kind p.row.kind) (f.point.free == t + 1) f.lets).1, all), f.lets)
            | inr n ↦
                let fewer : tally (busy_at p.row.kind t) s ≤ tally (busy_at p.row.kind (t + 1)) s =
                tally-le (busy_at p.row.kind t) (busy_at p.row.kind (t + 1)) s (λ q among. busy-on p.row.kind t q (n.none q among)) in
                absurd (no (omega (arith, fewer, passes.0), before))
          ]
    ]

-- SECOND ORDER

pub second-held : (b : Problem) (s : List Point) (p : Point) (t : ℕ) → p.start ≡ t + 1 → IsPlaced b s p → ((r : Reg) → last_done r s ≡ done_of s r) → ArePositive s → p.issue ≤ t →
    IsHeldBy b s p Second p.issue (t + 1) (second_holder s p)
second-held b s p t is pl latest positive late =
    let regs : List Reg = p.row.reads in
    let memory : Cause = References p.row.memory in
    let results : Holder = soonest nobody (t + 1) s regs in
    let reference : Holder = holder memory (t + 1) s in
    let operands : ℕ = greatest (λ r. last_done r s) regs in
    let waits : ℕ = memory_wait s p.row in
    let whole : t + 1 ≡ max p.issue (max operands waits) = sym is ∙ pl.start in
    let here : (g : Holder) → g ≡ second_holder s p → IsHeldBy b s p Second p.issue (t + 1) g → IsHeldBy b s p Second p.issue (t + 1) (second_holder s p) =
    λ g e held. subst (IsHeldBy b s p Second p.issue (t + 1)) e held in
    let named : second_holder s p ≡ holder_or_else results reference = ap (λ k. holder_or_else (soonest nobody k s regs) (holder memory k s)) is in
    elim (soonest-is (t + 1) s regs nobody refl positive) [
      | inr found ↦
          let f = found.found in
          let r : Reg = found.reg in
          let done : done_at f.point r ≡ t + 1 = eqb-true (done_at f.point r) (t + 1) f.lets in
          let last : done_at f.point r ≡ last_done r s =
          omega (arith, done, latest r, le-greatest (λ (q : Point). done_at q r) f.point s f.among, le-greatest (λ u. last_done u s) r regs found.listed, whole) in
          here (holder (Writes r) (t + 1) s)
          (sym (named ∙ or_else-first results reference (omega (arith, ap (λ (h : Holder). h.number) found.is, f.number, f.some)) ∙ found.is))
          (f.point, f.among, f.number, (refl, sym is, (found.listed, omega (arith, done), last)), f.lets)
      | inl (zero, z, none) ↦
          elim (found-or-none memory (t + 1) s positive) [
            | inl f ↦
                let parts = and_parts (memory_pair f.point.row.memory p.row.memory) (f.point.start + 1 == t + 1) f.lets in
                here reference (sym (named ∙ or_else-second results reference zero))
                (f.point, f.among, f.number, (refl, sym is, (refl, parts.0, omega (arith, eqb-true (f.point.start + 1) (t + 1) parts.1))), f.lets)
            | inr n ↦
                elim (cases_le (t + 1) operands) [
                  | inl read ↦
                      let met = greatest-met (λ r. last_done r s) regs (omega (arith, read)) in
                      let by = greatest-met (λ (q : Point). done_at q met.0) s (omega (arith, read, met.2, latest met.0)) in
                      let done : done_at by.0 met.0 ≡ t + 1 = omega (arith, by.2, latest met.0, met.2, read, whole) in
                      absurd (eqb-false (done_at by.0 met.0) (t + 1) (none met.0 met.1 by.0 by.1) done)
                  | inr past ↦
                      let passes = greatest-passes (λ (q : Point). memory_pair q.row.memory p.row.memory) (λ (q : Point). q.start + 1) (t + 1) s (omega arith) (omega (arith, whole, past, late)) in
                      absurd (true≢false (sym (and_from (memory_pair passes.0.row.memory p.row.memory) (passes.0.start + 1 == t + 1) passes.2 (eq-eqb (passes.0.start + 1) (t + 1) passes.3)) ∙ n.none passes.0 passes.1))
                ]
          ]
    ]

-- THIRD ORDER

pub third-held : (b : Problem) (s : List Point) (p : Point) (w : Write) (t : ℕ) → readers_wait s w.reg ≡ t + 1 → IsPlaced b s p → ArePositive s → Among w p.row.writes → p.start + w.latency ≤ t →
    IsHeldBy b s p Third (p.start + w.latency) (t + 1) (third_holder s w)
third-held b s p w t is pl positive among late =
    let d : ResultAt = result_at s p.start w in
    let made : Among d p.results = subst (Among d) (sym pl.results) (among-map (result_at s p.start) w p.row.writes among) in
    let end : d.time ≡ t + 1 = omega (arith, is, late) in
    let named : third_holder s w ≡ holder (Reads w.reg) (t + 1) s = ap (λ k. holder (Reads w.reg) k s) is in
    elim (found-or-none (Reads w.reg) (t + 1) s positive) [
      | inl f ↦
          let parts = and_parts (has_reg w.reg f.point.row.reads) (f.point.start + 1 == t + 1) f.lets in
          subst (IsHeldBy b s p Third (p.start + w.latency) (t + 1)) (sym named)
          (f.point, f.among, f.number, ((w, among, refl, refl), (d, made, refl, omega (arith, end)), parts.0, omega (arith, eqb-true (f.point.start + 1) (t + 1) parts.1)), f.lets)
      | inr n ↦
          let passes = greatest-passes (λ (q : Point). has_reg w.reg q.row.reads) (λ (q : Point). q.start + 1) (t + 1) s (omega arith) (sym is) in
          absurd (true≢false (sym (and_from (has_reg w.reg passes.0.row.reads) (passes.0.start + 1 == t + 1) passes.2 (eq-eqb (passes.0.start + 1) (t + 1) passes.3)) ∙ n.none passes.0 passes.1))
    ]

-- ALL STRETCHES

-- a stretch is what it is made of, and not empty
stretch-is : (p : Point) (conflict : Conflict) (from to : ℕ) (h : Holder) (x : Stretch) → Among x (stretch p conflict from to h) →
    (from < to) × (x ≡ record { number = p.number; conflict = conflict; from = from; to = to; holder = h })
stretch-is p conflict from to h x among =
    elim (cases_Bool (nat_lt from to)) [
      | inl holds ↦
          elim (subst (Among x) (cond-true (nat_lt from to) _ [] holds) among) [
            | inl e ↦ (ltb-true from to holds, e)
            | inr past ↦ absurd past
          ]
      | inr fails ↦ absurd (subst (Among x) (cond-false (nat_lt from to) _ [] fails) among)
    ]

forbidden-by : (b : Problem) (s : List Point) (p : Point) (conflict : Conflict) (from to : ℕ) (h : Holder) (x : Stretch) → Among x (stretch p conflict from to h) →
    ((t : ℕ) → to ≡ t + 1 → from ≤ t → IsHeldBy b s p conflict from (t + 1) h) → IsForbidden b s p x
forbidden-by b s p conflict from to h x among held =
    let made = stretch-is p conflict from to h x among in
    let last : to ≡ (to - 1) + 1 = omega (arith, made.0) in
    let by = subst (λ k. IsHeldBy b s p conflict from k h) (sym last) (held (to - 1) last (omega (arith, made.0))) in
    subst (IsForbidden b s p) (sym made.1) (refl, made.0, (by.0, by.1, by.2, by.3))

pub all-forbidden : (b : Problem) (ns : List ℕ) (n : ℕ) (x : Stretch) → length ns ≤ BLOCK_LIMIT → AreFromOne ns →
    Among x (stretches_at (points_of b ns) (point_of b (points_of b ns) n)) → IsForbidden b (points_of b ns) (point_of b (points_of b ns) n) x
all-forbidden b ns n x few from among =
    let s : List Point = points_of b ns in
    let p : Point = point_of b s n in
    let pl : IsPlaced b s p = placed b s n in
    let positive : ArePositive s = positive-after b [] ns (λ q none. absurd none) from in
    let turn : InTurn s = in-turn b ns few in
    elim (split-among x (first_stretch s p ++ second_stretch s p) (flat_map (third_stretch s p) p.row.writes) among) [
      | inl early ↦
          elim (split-among x (first_stretch s p) (second_stretch s p) early) [
            | inl first ↦
                forbidden-by b s p First (slot s p) p.issue (first_holder s p) x first (λ t is late. first-held b s p t is pl positive late)
            | inr second ↦
                forbidden-by b s p Second p.issue p.start (second_holder s p) x second (λ t is late. second-held b s p t is pl turn.latest positive late)
          ]
      | inr held ↦
          let third = among-flat (third_stretch s p) x p.row.writes held in
          forbidden-by b s p Third (p.start + third.0.latency) (readers_wait s third.0.reg) (third_holder s third.0) x third.2
          (λ t is late. third-held b s p third.0 t is pl positive third.1 late)
    ]
