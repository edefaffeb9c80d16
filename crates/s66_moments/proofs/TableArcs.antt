-- In every legal order a moment comes after another at least by the arc of the table.
use Rattle.std.proofs.Common.{ℕ, ◌+◌, ◌-◌, ◌≤◌, ◌≡◌, ◌⊎◌, ◌∙◌, Bool, true, false, true≢false, cond, not, ◌&&◌, List, [], ◌∷◌, refl, sym, ap, arith, inl, inr, eqb, subst, Some, None, Option, unwrap_or}
use Rattle.std.proofs.Common.{is_some, eqb-true, eq-eqb, ne_eqb}
use Rattle.std.proofs.lemmas.Bool.{cond-true, cond-false, or_cases, or_left, or_right, and_parts, not-true, cases_Bool, cases_eq}
use Rattle.s66_isa.specs.{Reg, some_of, Among, Write, same_reg, same_kind, has_reg, memory_pair}
use Rattle.s66_isa.proofs.Lists.{greatest-le}
use Rattle.s66_isa.proofs.SameRegister.{same_reg-true}
use Rattle.s66_model.specs.{Problem, row_at, copies, IsLegal, is_remaining}
use Rattle.s66_model.proofs.Remaining.{remaining-parts}
use Rattle.s66_moments.specs.{Stage, Issue, Start, Done, Free, Moment, Origin, At, End, time_of, writes, has_stage, is_moment, only_if, latency_to, fetches, own_arc, later_arc, arc, Before, IsSo}
use Rattle.s66_moments.specs.{IsNumber}
use Rattle.s66_moments.proofs.FactLaws.{free-last, done-last, issue-start, start-free, before-parcels, before-unit}
use Rattle.s66_moments.proofs.BaseArcs.{start-done, held-free, read-start, written-issue, memory-start, reader-done}

-- TESTS

pub and_three : (x y z : Bool) → (x && y && z) ≡ true → (x ≡ true) × (y ≡ true) × (z ≡ true)
and_three true true true h = (refl, refl, refl)
and_three _ _ _ h = absurd (true≢false (sym h))

pub and_four : (x y z u : Bool) → (x && y && z && u) ≡ true → (x ≡ true) × (y ≡ true) × (z ≡ true) × (u ≡ true)
and_four true true true true h = (refl, refl, refl, refl)
and_four _ _ _ _ h = absurd (true≢false (sym h))

pub and_five : (x y z u v : Bool) → (x && y && z && u && v) ≡ true → (x ≡ true) × (y ≡ true) × (z ≡ true) × (u ≡ true) × (v ≡ true)
and_five true true true true true h = (refl, refl, refl, refl, refl)
and_five _ _ _ _ _ h = absurd (true≢false (sym h))

-- one that passes
pub some-found : {X : Type 0} (test : X → Bool) (xs : List X) → some_of test xs ≡ true → (x : X) × Among x xs × (test x ≡ true)
some-found test [] h = absurd (true≢false (sym h))
some-found test (x ∷ xs) h =
    elim (or_cases (test x) (some_of test xs) h) [
      | inl here ↦ (x, inl refl, here)
      | inr past ↦ (let (y, among, is) = some-found test xs past in (y, inr among, is))
    ]

pub found-some : {X : Type 0} (test : X → Bool) (x : X) (xs : List X) → Among x xs → test x ≡ true → some_of test xs ≡ true
found-some test x [] h is = absurd h
found-some test x (y ∷ ys) h is =
    elim h [
      | inl here ↦ or_left (test y) (some_of test ys) (ap test (sym here) ∙ is)
      | inr past ↦ or_right (test y) (some_of test ys) (found-some test x ys past is)
    ]

-- OPTIONS

pub Some-same : (v w : ℕ) → Some v ≡ Some w → v ≡ w
Some-same v w h = ap (λ (o : Option ℕ). unwrap_or o 0) h

pub None-none : (w : ℕ) → ◌≡◌ {A = Option ℕ} None (Some w) → ⊥
None-none w h = true≢false (sym (ap (λ (o : Option ℕ). is_some o) h))

pub only_if-parts : (test : Bool) (v w : ℕ) → only_if test v ≡ Some w → (test ≡ true) × (v ≡ w)
only_if-parts true v w h = (refl, Some-same v w h)
only_if-parts false v w h = absurd (None-none w h)

-- MOMENTS

pub moment-parts : (b : Problem) (n : ℕ) (stage : Stage) → is_moment b (At n stage) ≡ true → (is_remaining b.block [] n ≡ true) × (has_stage (row_at b n) stage ≡ true)
moment-parts b n stage h = and_parts (is_remaining b.block [] n) (has_stage (row_at b n) stage) h

pub moment-number : (b : Problem) (n : ℕ) (stage : Stage) → is_moment b (At n stage) ≡ true → IsNumber b n
moment-number b n stage h = (let (low, high, new) = remaining-parts b.block [] n (moment-parts b n stage h).0 in (low, high))

pub some-write : (x : Reg) (ws : List Write) → some_of (λ (w : Write). same_reg w.reg x) ws ≡ true → (w : Write) × Among w ws × (w.reg ≡ x)
some-write x ws h =
    let (w, among, is) = some-found (λ (w : Write). same_reg w.reg x) ws h in
    (w, among, same_reg-true w.reg x is)

module _ (b : Problem) (order : List ℕ) (legal : IsLegal b.block order) where
  -- OF ONE INSTRUCTION

  latency-so : (n : ℕ) (x : Reg) → IsNumber b n → writes (row_at b n) x ≡ true → time_of b order (At n Start) + latency_to (row_at b n) x ≤ time_of b order (At n (Done x))
  latency-so n x is there =
      let start : ℕ = time_of b order (At n Start) in
      let done : ℕ = time_of b order (At n (Done x)) in
      let each : (w : Write) → Among w (row_at b n).writes → w.reg ≡ x → start + w.latency ≤ done = λ w among same. subst (λ r. start + w.latency ≤ time_of b order (At n (Done r))) same (start-done b order legal n w is.0 is.1 among) in
      let (v, among, same) = some-write x (row_at b n).writes there in
      let most : latency_to (row_at b n) x ≤ done - start =
      greatest-le (λ (w : Write). cond (same_reg w.reg x) w.latency 0) (done - start) (row_at b n).writes (λ w in_writes.
      elim (cases_Bool (same_reg w.reg x)) [
        | inl is ↦ omega (arith, each w in_writes (same_reg-true w.reg x is), cond-true {A = ℕ} (same_reg w.reg x) w.latency 0 is)
        | inr off ↦ omega (arith, cond-false {A = ℕ} (same_reg w.reg x) w.latency 0 off)
      ]) in
      omega (arith, most, each v among same)

  own-so : (n : ℕ) (e f : Stage) (w : ℕ) → IsNumber b n → has_stage (row_at b n) f ≡ true → own_arc (row_at b n) e f ≡ Some w → time_of b order (At n e) + w ≤ time_of b order (At n f)
  own-so n Issue Start w is there arc = omega (arith, Some-same 0 w arc, issue-start b order legal n is.0 is.1)
  own-so n Start (Done x) w is there arc = omega (arith, Some-same (latency_to (row_at b n) x) w arc, latency-so n x is there)
  own-so n Start Free w is there arc = omega (arith, Some-same ((row_at b n).hold + 1) w arc, start-free b order legal n is.0 is.1)
  own-so n (Done x) Free w is there arc =
      let parts = only_if-parts (not (fetches (row_at b n) x)) 1 w arc in
      omega (arith, parts.1, held-free b order legal n x is.0 is.1 (not-true (fetches (row_at b n) x) parts.0))
  own-so n _ _ w is there arc = absurd (None-none w arc)

  -- OF TWO, of which m stands before n

  module _ (m n : ℕ) (before : IsSo b order (Before m n)) where
    written-so : (x : Reg) → writes (row_at b n) x ≡ true → time_of b order (At m (Done x)) ≤ time_of b order (At n Issue)
    written-so x there =
        let (w, among, same) = some-write x (row_at b n).writes there in
        subst (λ r. time_of b order (At m (Done r)) ≤ time_of b order (At n Issue)) same (let le = written-issue b order legal m n before w among in omega (arith, le))

    reader-so : (x : Reg) → has_reg x (row_at b m).reads ≡ true → writes (row_at b n) x ≡ true → time_of b order (At m Start) + 1 ≤ time_of b order (At n (Done x))
    reader-so x reads there =
        let (w, among, same) = some-write x (row_at b n).writes there in
        subst (λ r. time_of b order (At m Start) + 1 ≤ time_of b order (At n (Done r))) same
        (reader-done b order legal m n before w among (subst (λ r. has_reg r (row_at b m).reads ≡ true) (sym same) reads))

    later-so : (e f : Stage) (w : ℕ) → has_stage (row_at b n) f ≡ true → later_arc b (row_at b m) (row_at b n) e f ≡ Some w → time_of b order (At m e) + w ≤ time_of b order (At n f)
    later-so Issue Issue w there arc = (let le = before-parcels b order legal m n before in omega (arith, Some-same (row_at b m).parcels w arc, le))
    later-so Start Start w there arc =
        let parts = only_if-parts (memory_pair (row_at b m).memory (row_at b n).memory) 1 w arc in
        (let le = memory-start b order legal m n before parts.0 in omega (arith, parts.1, le))
    later-so Start (Done x) w there arc =
        let parts = only_if-parts (has_reg x (row_at b m).reads) 1 w arc in
        (let le = reader-so x parts.0 there in omega (arith, parts.1, le))
    later-so (Done x) Issue w there arc =
        let parts = only_if-parts (writes (row_at b n) x) 0 w arc in
        (let le = written-so x parts.0 in omega (arith, parts.1, le))
    later-so (Done x) Start w there arc =
        let parts = only_if-parts (has_reg x (row_at b n).reads) 0 w arc in
        (let le = read-start b order legal m n before x parts.0 in omega (arith, parts.1, le))
    later-so Free Issue w there arc =
        let parts = only_if-parts (same_kind (row_at b m).kind (row_at b n).kind && eqb (copies b (row_at b n).kind) 1) 0 w arc in
        let both = and_parts (same_kind (row_at b m).kind (row_at b n).kind) (eqb (copies b (row_at b n).kind) 1) parts.0 in
        (let le = before-unit b order legal m n before both.0 (eqb-true (copies b (row_at b n).kind) 1 both.1) in omega (arith, parts.1, le))
    later-so _ _ w there arc = absurd (None-none w arc)

  -- THE TABLE

  abbrev pub InOrder : Moment → Moment → Type 0
  InOrder (At m e) (At n f) = (m ≡ n) ⊎ IsSo b order (Before m n)
  InOrder e f = Unit {0}

  -- what comes before itself is nowhere
  both-so : (m n : ℕ) (e f : Stage) (w : ℕ) → (m ≡ n) ⊎ IsSo b order (Before m n) → is_moment b (At n f) ≡ true → arc b (At m e) (At n f) ≡ Some w → time_of b order (At m e) + w ≤ time_of b order (At n f)
  both-so m n e f w stands is at_arc =
      elim (cases_eq m n) [
        | inl same ↦
            let own : own_arc (row_at b m) e f ≡ Some w = rw (eq-eqb m n same) at at_arc in
            subst (λ k. time_of b order (At k e) + w ≤ time_of b order (At n f)) (sym same)
            (own-so n e f w (moment-number b n f is) (moment-parts b n f is).1 (subst (λ k. own_arc (row_at b k) e f ≡ Some w) same own))
        | inr other ↦
            elim stands [
              | inl same ↦ absurd (other same)
              | inr before ↦ later-so m n before e f w (moment-parts b n f is).1 (rw (ne_eqb m n other) at at_arc)
            ]
      ]

  pub arc-so : (e f : Moment) (w : ℕ) → InOrder e f → is_moment b f ≡ true → arc b e f ≡ Some w → time_of b order e + w ≤ time_of b order f
  arc-so Origin (At n f) w stands is at_arc = omega (arith, Some-same 0 w at_arc)
  arc-so Origin End w stands is at_arc = omega (arith, Some-same 0 w at_arc)
  arc-so (At m e) (At n f) w stands is at_arc = both-so m n e f w stands is at_arc
  arc-so (At m (Done x)) End w stands is at_arc = omega (arith, Some-same 0 w at_arc, done-last b order m x)
  arc-so (At m Free) End w stands is at_arc = omega (arith, Some-same 0 w at_arc, free-last b order m)
  arc-so _ _ w stands is at_arc = absurd (None-none w at_arc)
