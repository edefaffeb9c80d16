-- A chain is a lower bound.
use Rattle.std.proofs.Common.{ℕ, ◌+◌, ◌≤◌, ◌<◌, ◌≡◌, Bool, true, false, cond, ◌||◌, max, List, [], ◌∷◌, ◌++◌, refl, sym, ap, arith, inl, inr, ltb, eqb, map, ◌∙◌, ◌⊎◌, subst, eqb-true, ltb-true}
use Rattle.std.proofs.Common.{lt-ltb}
use Rattle.std.proofs.lemmas.Bool.{cond-true, cond-false, or_cases, or_parts, or_left, or_right, and_parts, and_from, eqb-false, cases_Bool}
use Rattle.s66_isa.specs.{Instr, Profile, Reg, greatest, some_of, has, Row, Write, row, instr_at, same_reg, has_reg, memory_of, memory_pair, reads_of, results_of, held_registers, loaded_registers}
use Rattle.s66_isa.specs.{hold_of}
use Rattle.s66_isa.proofs.Lists.{cases_le, greatest-le-greatest, greatest-le, greatest-shift}
use Rattle.s66_isa.proofs.SameRegister.{same_reg-true, same_reg-self, has_reg-le, has_reg-from}
use Rattle.s66_model.specs.{share, conflict, Problem, Point, ResultAt, row_at, done_at, writes_reg, done_of, last_done, end_of, issue_of, memory_wait, start_of, readers_wait, result_at, point}
use Rattle.s66_model.specs.{point_of, points_after, points_of, total_of, is_ready, GoesOn, IsBeginning, Completes, IsOrder, tail, uses, link, head, walk, chain_value, IsWalk, IsChain}
use Rattle.s66_model.proofs.LegalOrders.{GoesOn-join, ready-parts, depends-from, needs-each}
use Rattle.s66_model.proofs.Remaining.{remaining-parts, order-has}
use Rattle.s66_model.proofs.Issue.{issue-is}
use Rattle.s66_model.proofs.PointTimes.{points_after-append, greatest-stays, next-le-issue, issue-le-start, tail-le-last, point_of-row, point_of-number}

-- THE LATEST WRITER IS DONE LAST

-- it issues when all registers that it writes are done
pub written-le-issue : (b : Problem) (s : List Point) (n : ℕ) → greatest (λ (w : Write). done_of s w.reg) (row_at b n).writes ≤ (point_of b s n).issue
unfolding point
written-le-issue b s n =
    let r : Row = row_at b n in
    greatest-le (λ (w : Write). done_of s w.reg) (issue_of b s r) r.writes (λ w among. greatest-le (λ (p : Point). done_at p w.reg) (issue_of b s r) s (λ p in_s. (issue-is b s r).passes.1 p in_s w among))

not-written : (r : Reg) (ds : List ResultAt) → some_of (λ (d : ResultAt). same_reg d.reg r) ds ≡ false → greatest (λ (d : ResultAt). cond (same_reg d.reg r) d.time 0) ds ≡ 0
not-written r [] h = refl
not-written r (d ∷ ds) h =
    let both = or_parts (same_reg d.reg r) (some_of (λ (e : ResultAt). same_reg e.reg r) ds) h in
    omega (arith, cond-false {A = ℕ} (same_reg d.reg r) d.time 0 both.0, not-written r ds both.1)

-- a result comes no sooner than what its register waited for
written-after : (s : List Point) (start : ℕ) (r : Reg) (ws : List Write) → some_of (λ (d : ResultAt). same_reg d.reg r) (map (result_at s start) ws) ≡ true → greatest (λ (w : Write). done_of s w.reg) ws ≤ start → done_of s r ≤ greatest (λ (d : ResultAt). cond (same_reg d.reg r) d.time 0) (map (result_at s start) ws)
written-after s start r [] h le = absurd cc
written-after s start r (w ∷ ws) h le =
    elim (cases_Bool (same_reg w.reg r)) [
      | inl is ↦
          omega (arith, ap (done_of s) (same_reg-true w.reg r is), cond-true {A = ℕ} (same_reg w.reg r) (max (start + w.latency) (readers_wait s w.reg)) 0 is)
      | inr is ↦
          elim (or_cases (same_reg w.reg r) (some_of (λ (d : ResultAt). same_reg d.reg r) (map (result_at s start) ws)) h) [
            | inl here ↦ absurd cc
            | inr past ↦ omega (arith, written-after s start r ws past (omega arith))
          ]
    ]

last-step : (b : Problem) (s : List Point) (n : ℕ) (r : Reg) → last_done r s ≡ done_of s r → last_done r (point_of b s n ∷ s) ≡ done_of (point_of b s n ∷ s) r
unfolding point
last-step b s n r h =
    let p = point_of b s n in
    elim (cases_Bool (writes_reg r p)) [
      | inl is ↦
          (let after : done_of s r ≤ done_at p r = written-after s p.start r (row_at b n).writes is (omega (arith, written-le-issue b s n, issue-le-start b s n)) in
          omega (arith, after, cond-true {A = ℕ} (writes_reg r p) (done_at p r) (last_done r s) is))
      | inr is ↦
          omega (arith, cond-false {A = ℕ} (writes_reg r p) (done_at p r) (last_done r s) is, not-written r p.results is)
    ]

last-run : (b : Problem) (s : List Point) (ns : List ℕ) (r : Reg) → last_done r s ≡ done_of s r → last_done r (points_after b s ns) ≡ done_of (points_after b s ns) r
last-run b s [] r h = h
last-run b s (n ∷ ns) r h = last-run b (point_of b s n ∷ s) ns r (last-step b s n r h)

pub last-is_greatest : (b : Problem) (ns : List ℕ) (r : Reg) → last_done r (points_of b ns) ≡ done_of (points_of b ns) r
last-is_greatest b ns r = last-run b [] ns r refl

-- A VALUE BELOW f OF EVERY POINT OF A NUMBER

abbrev Each : ℕ → (Point → ℕ) → ℕ → List Point → Type 0
Each n f v [] = Unit {0}
Each n f v (p ∷ s) = (p.number ≡ n → v ≤ f p) × Each n f v s

Each-before : (b : Problem) (n : ℕ) (f : Point → ℕ) (v : ℕ) (s : List Point) (ns : List ℕ) → Each n f v (points_after b s ns) → Each n f v s
Each-before b n f v s [] h = h
Each-before b n f v s (m ∷ ns) h = (Each-before b n f v (point_of b s m ∷ s) ns h).1

Each-here : (b : Problem) (n : ℕ) (f g : Point → ℕ) (v u : ℕ) → ((s : List Point) → v ≤ f (point_of b s n) → u ≤ g (point_of b s n)) → (s : List Point) (m : ℕ) → ((point_of b s m).number ≡ n → v ≤ f (point_of b s m)) → (point_of b s m).number ≡ n → u ≤ g (point_of b s m)
Each-here b n f g v u step s m here e =
    let same : m ≡ n = sym (point_of-number b s m) ∙ e in
    subst (λ x. u ≤ g (point_of b s x)) (sym same) (step s (subst (λ x. v ≤ f (point_of b s x)) same (here e)))

-- what each placed point of the number gives
Each-map : (b : Problem) (n : ℕ) (f g : Point → ℕ) (v u : ℕ) → ((s : List Point) → v ≤ f (point_of b s n) → u ≤ g (point_of b s n)) → (s : List Point) (ns : List ℕ) → Each n f v (points_after b s ns) → Each n g u s → Each n g u (points_after b s ns)
Each-map b n f g v u step s [] h so_far = so_far
Each-map b n f g v u step s (m ∷ ns) h so_far =
    let here = (Each-before b n f v (point_of b s m ∷ s) ns h).0 in
    Each-map b n f g v u step (point_of b s m ∷ s) ns h (Each-here b n f g v u step s m here, so_far)

-- if the number is placed, the value is at most the greatest
Each-has : (b : Problem) (n : ℕ) (f : Point → ℕ) (v : ℕ) (s : List Point) (ns : List ℕ) → Each n f v (points_after b s ns) → has n ns ≡ true → v ≤ greatest f (points_after b s ns)
Each-has b n f v s [] h among = absurd cc
Each-has b n f v s (m ∷ ns) h among =
    elim (or_cases (eqb n m) (has n ns) among) [
      | inl here ↦
          (let e : (point_of b s m).number ≡ n = point_of-number b s m ∙ sym (eqb-true n m here) in
          omega (arith, (Each-before b n f v (point_of b s m ∷ s) ns h).0 e, greatest-stays b f (point_of b s m ∷ s) ns))
      | inr past ↦ Each-has b n f v (point_of b s m ∷ s) ns h past
    ]

Each-none : (b : Problem) (n : ℕ) (f : Point → ℕ) (v : ℕ) (s : List Point) (ns : List ℕ) → has n ns ≡ false → Each n f v s → Each n f v (points_after b s ns)
Each-none b n f v s [] h so_far = so_far
Each-none b n f v s (m ∷ ns) h so_far =
    let both = or_parts (eqb n m) (has n ns) h in
    Each-none b n f v (point_of b s m ∷ s) ns both.1 (λ e. (let same : n ≡ m = sym e ∙ point_of-number b s m in absurd (eqb-false n m both.0 same)), so_far)

-- WHAT A START WAITS FOR

-- what an instruction of the row r waits for from the point q
abbrev waits : Point → Row → ℕ
waits q r =
    max (greatest (λ (d : ResultAt). cond (uses r d.reg) d.time 0) q.results) (cond (memory_pair q.row.memory r.memory) (q.start + 1) 0)

results-bound : (done : Reg → ℕ) (r : Row) (most : ℕ) → ((x : Reg) → uses r x ≡ true → done x ≤ most) → (ds : List ResultAt) → ((x : Reg) → greatest (λ (d : ResultAt). cond (same_reg d.reg x) d.time 0) ds ≤ done x) → greatest (λ (d : ResultAt). cond (uses r d.reg) d.time 0) ds ≤ most
results-bound done r most used [] h = omega arith
results-bound done r most used (d ∷ ds) h =
    let rest = results-bound done r most used ds (λ x. omega (arith, h x)) in
    let here : d.time ≤ done d.reg = omega (arith, h d.reg, cond-true {A = ℕ} (same_reg d.reg d.reg) d.time 0 (same_reg-self d.reg)) in
    elim (cases_Bool (uses r d.reg)) [
      | inl is ↦ omega (arith, cond-true {A = ℕ} (uses r d.reg) d.time 0 is, used d.reg is)
      | inr is ↦ omega (arith, cond-false {A = ℕ} (uses r d.reg) d.time 0 is)
    ]

waits-bound : (done : Reg → ℕ) (r : Row) (most : ℕ) → ((x : Reg) → uses r x ≡ true → done x ≤ most) → (s : List Point) → ((x : Reg) → done_of s x ≤ done x) → memory_wait s r ≤ most → greatest (λ q. waits q r) s ≤ most
waits-bound done r most used [] h memory = omega arith
waits-bound done r most used (q ∷ s) h memory =
    omega (arith, results-bound done r most used q.results (λ x. omega (arith, h x)), waits-bound done r most used s (λ x. omega (arith, h x)) (omega arith))

pub writes-le : (f : Reg → ℕ) (r : Reg) (ws : List Write) → some_of (λ (w : Write). same_reg w.reg r) ws ≡ true → f r ≤ greatest (λ (w : Write). f w.reg) ws
writes-le f r [] h = absurd cc
writes-le f r (w ∷ ws) h =
    elim (or_cases (same_reg w.reg r) (some_of (λ (v : Write). same_reg v.reg r) ws) h) [
      | inl here ↦ omega (arith, ap f (same_reg-true w.reg r here))
      | inr past ↦ omega (arith, writes-le f r ws past)
    ]

pub reads-le-start : (b : Problem) (s : List Point) (n : ℕ) → greatest (λ x. last_done x s) (row_at b n).reads ≤ (point_of b s n).start
unfolding point start_of
reads-le-start b s n = omega arith

pub memory-le-start : (b : Problem) (s : List Point) (n : ℕ) → memory_wait s (row_at b n) ≤ (point_of b s n).start
unfolding point start_of
memory-le-start b s n = omega arith

used-le-start : (b : Problem) (s : List Point) (n : ℕ) → ((x : Reg) → last_done x s ≡ done_of s x) → (x : Reg) → uses (row_at b n) x ≡ true → done_of s x ≤ (point_of b s n).start
used-le-start b s n last x used =
    elim (or_cases (has_reg x (row_at b n).reads) (some_of (λ (w : Write). same_reg w.reg x) (row_at b n).writes) used) [
      | inl read ↦ omega (arith, last x, has_reg-le (λ y. last_done y s) x (row_at b n).reads read, reads-le-start b s n)
      | inr written ↦ omega (arith, writes-le (done_of s) x (row_at b n).writes written, written-le-issue b s n, issue-le-start b s n)
    ]

waits-le-start : (b : Problem) (s : List Point) (n : ℕ) → ((x : Reg) → last_done x s ≡ done_of s x) → greatest (λ q. waits q (row_at b n)) s ≤ (point_of b s n).start
waits-le-start b s n last =
    waits-bound (done_of s) (row_at b n) (point_of b s n).start (used-le-start b s n last) s (λ x. omega arith) (memory-le-start b s n)

pub head-le-start : (b : Problem) (s : List Point) (n : ℕ) → ((x : Reg) → last_done x s ≡ done_of s x) → head s (row_at b n) ≤ (point_of b s n).start
head-le-start b s n last =
    omega (arith, next-le-issue b s n, issue-le-start b s n, written-le-issue b s n, reads-le-start b s n, greatest-le-greatest (λ x. done_of s x) (λ x. last_done x s) (λ x. omega (arith, last x)) (row_at b n).reads)

head-grows : (b : Problem) (s : List Point) (k : ℕ) (r : Row) → head s r ≤ head (point_of b s k ∷ s) r
head-grows b s k r =
    omega (arith, next-le-issue b s k, greatest-le-greatest (λ x. done_of s x) (λ x. done_of (point_of b s k ∷ s) x) (λ x. omega arith) r.reads, greatest-le-greatest (λ (w : Write). done_of s w.reg) (λ (w : Write). done_of (point_of b s k ∷ s) w.reg) (λ w. omega arith) r.writes)

-- A LINK PASSES ITS LATENCY ON

link-each : (s : List Point) (start v : ℕ) (r : Row) → 1 ≤ v → (w : Write) → v ≤ cond (uses r w.reg) w.latency 0 → start + v ≤ cond (uses r w.reg) (max (start + w.latency) (readers_wait s w.reg)) 0
link-each s start v r some w h =
    elim (cases_Bool (uses r w.reg)) [
      | inl is ↦ omega (arith, cond-true {A = ℕ} (uses r w.reg) w.latency 0 is, cond-true {A = ℕ} (uses r w.reg) (max (start + w.latency) (readers_wait s w.reg)) 0 is)
      | inr is ↦ absurd (omega (arith, cond-false {A = ℕ} (uses r w.reg) w.latency 0 is))
    ]

link-register : (b : Problem) (s : List Point) (m : ℕ) (r : Row) (v : ℕ) → 1 ≤ v → v ≤ greatest (λ (w : Write). cond (uses r w.reg) w.latency 0) (row_at b m).writes → (point_of b s m).start + v ≤ greatest (λ (d : ResultAt). cond (uses r d.reg) d.time 0) (point_of b s m).results
unfolding point
link-register b s m r v some h =
    greatest-shift (λ (w : Write). cond (uses r w.reg) w.latency 0) (λ (d : ResultAt). cond (uses r d.reg) d.time 0) (result_at s (start_of b s (row_at b m))) (start_of b s (row_at b m)) v (link-each s (start_of b s (row_at b m)) v r some) (row_at b m).writes some h

link-memory : (b : Problem) (s : List Point) (m : ℕ) (r : Row) → memory_pair (row_at b m).memory r.memory ≡ true → (point_of b s m).start + 1 ≤ cond (memory_pair (point_of b s m).row.memory r.memory) ((point_of b s m).start + 1) 0
link-memory b s m r is =
    let is2 : memory_pair (point_of b s m).row.memory r.memory ≡ true = rw (point_of-row b s m) is in
    omega (arith, cond-true {A = ℕ} (memory_pair (point_of b s m).row.memory r.memory) ((point_of b s m).start + 1) 0 is2)

link-le-waits : (b : Problem) (s : List Point) (m : ℕ) (r : Row) → 1 ≤ link (row_at b m) r → (point_of b s m).start + link (row_at b m) r ≤ waits (point_of b s m) r
link-le-waits b s m r some =
    let v = link (row_at b m) r in
    elim (cases_le v (greatest (λ (w : Write). cond (uses r w.reg) w.latency 0) (row_at b m).writes)) [
      | inl register ↦ omega (arith, link-register b s m r v some register)
      | inr past ↦
          elim (cases_Bool (memory_pair (row_at b m).memory r.memory)) [
            | inl is ↦ omega (arith, link-memory b s m r is, cond-true {A = ℕ} (memory_pair (row_at b m).memory r.memory) 1 0 is)
            | inr is ↦ absurd (omega (arith, cond-false {A = ℕ} (memory_pair (row_at b m).memory r.memory) 1 0 is))
          ]
    ]

-- A LINK IS A DEPENDENCE

some-each : (test : Reg → Bool) (hold load : ℕ) (hs ls : List Reg) → some_of (λ (w : Write). test w.reg) (map (λ r. record { reg = r; latency = hold; held = true }) hs ++ map (λ r. record { reg = r; latency = load; held = false }) ls) ≡ some_of test (hs ++ ls)
some-each test hold load [] [] = refl
some-each test hold load [] (l ∷ ls) = ap (λ x. test l || x) (some-each test hold load [] ls)
some-each test hold load (r ∷ hs) ls = ap (λ x. test r || x) (some-each test hold load hs ls)

-- the registers that a row writes are the results of the instruction
some-result : (test : Reg → Bool) (p : Profile) (n : Instr) → some_of (λ (w : Write). test w.reg) (row p n).writes ≡ some_of test (results_of n)
unfolding row
some-result test p n = some-each test (hold_of p n.op.code) p.load (held_registers n) (loaded_registers (memory_of n) n)

some-positive : (test : Reg → Bool) (ws : List Write) → 1 ≤ greatest (λ (w : Write). cond (test w.reg) w.latency 0) ws → some_of (λ (w : Write). test w.reg) ws ≡ true
some-positive test [] some = absurd (omega arith)
some-positive test (w ∷ ws) some =
    elim (cases_Bool (test w.reg)) [
      | inl is ↦ or_left (test w.reg) (some_of (λ (v : Write). test v.reg) ws) is
      | inr is ↦ or_right (test w.reg) (some_of (λ (v : Write). test v.reg) ws) (some-positive test ws (omega (arith, cond-false {A = ℕ} (test w.reg) w.latency 0 is)))
    ]

some-either : (f g : Reg → Bool) (rs : List Reg) → some_of (λ r. f r || g r) rs ≡ true → (some_of f rs ≡ true) ⊎ (some_of g rs ≡ true)
some-either f g [] h = absurd cc
some-either f g (r ∷ rs) h =
    elim (or_cases (f r || g r) (some_of (λ x. f x || g x) rs) h) [
      | inl here ↦
          elim (or_cases (f r) (g r) here) [
            | inl first ↦ inl (or_left (f r) (some_of f rs) first)
            | inr second ↦ inr (or_left (g r) (some_of g rs) second)
          ]
      | inr past ↦
          elim (some-either f g rs past) [
            | inl first ↦ inl (or_right (f r) (some_of f rs) first)
            | inr second ↦ inr (or_right (g r) (some_of g rs) second)
          ]
    ]

some-more : (f g : Reg → Bool) → ((r : Reg) → f r ≡ true → g r ≡ true) → (rs : List Reg) → some_of f rs ≡ true → some_of g rs ≡ true
some-more f g each [] h = h
some-more f g each (r ∷ rs) h =
    elim (or_cases (f r) (some_of f rs) h) [
      | inl here ↦ or_left (g r) (some_of g rs) (each r here)
      | inr past ↦ or_right (g r) (some_of g rs) (some-more f g each rs past)
    ]

reads-is : (p : Profile) (n : Instr) → (row p n).reads ≡ reads_of n
unfolding row
reads-is p n = refl

memory-is : (p : Profile) (n : Instr) → (row p n).memory ≡ memory_of n
unfolding row
memory-is p n = refl

-- a result of m that n reads or writes
shared : (p : Profile) (m n : Instr) → some_of (λ r. uses (row p n) r) (results_of m) ≡ true → (share (results_of m) (reads_of n) ≡ true) ⊎ (share (results_of m) (results_of n) ≡ true)
shared p m n h =
    elim (some-either (λ r. has_reg r (row p n).reads) (λ r. some_of (λ (w : Write). same_reg w.reg r) (row p n).writes) (results_of m) h) [
      | inl read ↦ inl (rw (sym (reads-is p n)) read)
      | inr written ↦
          inr (some-more (λ r. some_of (λ (w : Write). same_reg w.reg r) (row p n).writes) (λ r. has_reg r (results_of n)) (λ r is. has_reg-from r (results_of n) (sym (some-result (λ s. same_reg s r) p n) ∙ is)) (results_of m) written)
    ]

conflict-read : (m n : Instr) → share (results_of m) (reads_of n) ≡ true → conflict m n ≡ true
unfolding conflict
conflict-read m n h =
    or_left (share (results_of m) (reads_of n) || share (reads_of m) (results_of n) || share (results_of m) (results_of n)) (memory_pair (memory_of m) (memory_of n))
    (or_left (share (results_of m) (reads_of n) || share (reads_of m) (results_of n)) (share (results_of m) (results_of n))
    (or_left (share (results_of m) (reads_of n)) (share (reads_of m) (results_of n)) h))

conflict-written : (m n : Instr) → share (results_of m) (results_of n) ≡ true → conflict m n ≡ true
unfolding conflict
conflict-written m n h =
    or_left (share (results_of m) (reads_of n) || share (reads_of m) (results_of n) || share (results_of m) (results_of n)) (memory_pair (memory_of m) (memory_of n))
    (or_right (share (results_of m) (reads_of n) || share (reads_of m) (results_of n)) (share (results_of m) (results_of n)) h)

conflict-memory : (m n : Instr) → memory_pair (memory_of m) (memory_of n) ≡ true → conflict m n ≡ true
unfolding conflict
conflict-memory m n h =
    or_right (share (results_of m) (reads_of n) || share (reads_of m) (results_of n) || share (results_of m) (results_of n)) (memory_pair (memory_of m) (memory_of n)) h

pub link-conflict : (p : Profile) (m n : Instr) → 1 ≤ link (row p m) (row p n) → conflict m n ≡ true
link-conflict p m n some =
    elim (cases_Bool (memory_pair (row p m).memory (row p n).memory)) [
      | inl is ↦ conflict-memory m n (rw (sym (memory-is p m), sym (memory-is p n)) is)
      | inr is ↦
          (let written : some_of (λ r. uses (row p n) r) (results_of m) ≡ true = sym (some-result (λ r. uses (row p n) r) p m) ∙ some-positive (λ r. uses (row p n) r) (row p m).writes (omega (arith, cond-false {A = ℕ} (memory_pair (row p m).memory (row p n).memory) 1 0 is)) in
          elim (shared p m n written) [
            | inl read ↦ conflict-read m n read
            | inr twice ↦ conflict-written m n twice
          ])
    ]

-- what has a link to a ready number is placed
links_from-before : (b : Problem) (prefix : List ℕ) (m n : ℕ) → is_ready b.block prefix n ≡ true → m < n → 1 ≤ link (row_at b m) (row_at b n) → has m prefix ≡ true
links_from-before b prefix m n h lt some =
    let (low, high, new, met) = ready-parts b.block prefix n h in
    let dep = and_from (ltb m n) (conflict (instr_at b.block m) (instr_at b.block n)) (lt-ltb m n lt) (link-conflict b.profile (instr_at b.block m) (instr_at b.block n) some) in
    needs-each b.block prefix n n met m (depends-from b.block m n dep) (omega arith) dep

-- THE BOUND

module _ (b : Problem) where
  link-here : (m n u : ℕ) (prefix : List ℕ) (k : ℕ) → m < n → 1 ≤ link (row_at b m) (row_at b n) → is_ready b.block prefix k ≡ true → Each m (λ q. waits q (row_at b n)) u (points_of b prefix) → (point_of b (points_of b prefix) k).number ≡ n → u ≤ (point_of b (points_of b prefix) k).start
  link-here m n u prefix k lt some is waiting e =
      let s = points_of b prefix in
      let same : k ≡ n = sym (point_of-number b s k) ∙ e in
      let is2 : is_ready b.block prefix n ≡ true = subst (λ x. is_ready b.block prefix x ≡ true) same is in
      let le : u ≤ (point_of b s n).start = omega (arith, Each-has b m (λ q. waits q (row_at b n)) u [] prefix waiting (links_from-before b prefix m n is2 lt some), waits-le-start b s n (last-is_greatest b prefix)) in
      subst (λ x. u ≤ (point_of b s x).start) (sym same) le

  -- from v at the start of m to v and the link at the start of n
  link-run : (m n v : ℕ) → m < n → 1 ≤ link (row_at b m) (row_at b n) → (prefix rest : List ℕ) → GoesOn b.block prefix rest → Each m (λ p. p.start) v (points_after b (points_of b prefix) rest) → Each n (λ p. p.start) (v + link (row_at b m) (row_at b n)) (points_of b prefix) → Each n (λ p. p.start) (v + link (row_at b m) (row_at b n)) (points_after b (points_of b prefix) rest)
  link-run m n v lt some prefix [] goes from so_far = so_far
  link-run m n v lt some prefix (k ∷ rest) goes from so_far =
      let s = points_of b prefix in
      let u = v + link (row_at b m) (row_at b n) in
      let e : points_of b (prefix ++ k ∷ []) ≡ point_of b s k ∷ s = points_after-append b [] prefix (k ∷ []) in
      let before : Each m (λ p. p.start) v s = Each-before b m (λ p. p.start) v s (k ∷ rest) from in
      let waiting : Each m (λ q. waits q (row_at b n)) u s = Each-map b m (λ p. p.start) (λ q. waits q (row_at b n)) v u (λ t h. omega (arith, link-le-waits b t m (row_at b n) some)) [] prefix before tt in
      let here : (point_of b s k).number ≡ n → u ≤ (point_of b s k).start = link-here m n u prefix k lt some goes.0 waiting in
      let so_far2 : Each n (λ p. p.start) u (points_of b (prefix ++ k ∷ [])) = subst (λ x. Each n (λ p. p.start) u x) (sym e) (here, so_far) in
      let from2 : Each m (λ p. p.start) v (points_after b (points_of b (prefix ++ k ∷ [])) rest) = subst (λ x. Each m (λ p. p.start) v (points_after b x rest)) (sym e) from in
      subst (λ x. Each n (λ p. p.start) u (points_after b x rest)) e (link-run m n v lt some (prefix ++ k ∷ []) rest goes.1 from2 so_far2)

  head-here : (n v : ℕ) (s : List Point) (k : ℕ) → ((x : Reg) → last_done x s ≡ done_of s x) → v ≤ head s (row_at b n) → (point_of b s k).number ≡ n → v ≤ (point_of b s k).start
  head-here n v s k last le e =
      let same : k ≡ n = sym (point_of-number b s k) ∙ e in
      subst (λ x. v ≤ (point_of b s x).start) (sym same) (omega (arith, head-le-start b s n last))

  head-run : (n v : ℕ) (s : List Point) (rest : List ℕ) → ((x : Reg) → last_done x s ≡ done_of s x) → v ≤ head s (row_at b n) → Each n (λ p. p.start) v s → Each n (λ p. p.start) v (points_after b s rest)
  head-run n v s [] last le so_far = so_far
  head-run n v s (k ∷ rest) last le so_far =
      head-run n v (point_of b s k ∷ s) rest (λ x. last-step b s k x (last x)) (omega (arith, head-grows b s k (row_at b n))) (head-here n v s k last le, so_far)

  -- of each number of a chain the start is late enough, and so is the total
  walk-sound : (order : List ℕ) → IsOrder b.block order → (n v : ℕ) (ms prefix : List ℕ) → IsWalk b prefix n ms → Each n (λ p. p.start) v (points_of b order) → v + walk b n ms ≤ total_of b order
  walk-sound order legal n v [] prefix is from =
      let (low, high, new) = remaining-parts b.block prefix n is in
      let tails : Each n end_of (v + tail (row_at b n)) (points_of b order) = Each-map b n (λ p. p.start) end_of v (v + tail (row_at b n)) (λ s h. omega (arith, tail-le-last b s n)) [] order from tt in
      Each-has b n end_of (v + tail (row_at b n)) [] order tails (order-has b.block order legal n low high)
  walk-sound order legal n v (m ∷ ms) prefix is from =
      let links_from = and_parts (ltb n m) (ltb 0 (link (row_at b n) (row_at b m))) is.1 in
      omega (arith, walk-sound order legal m (v + link (row_at b n) (row_at b m)) ms prefix is.2 (link-run n m v (ltb-true n m links_from.0) (ltb-true 0 (link (row_at b n) (row_at b m)) links_from.1) [] order legal.0 from tt))

  walk-new : (prefix : List ℕ) (n : ℕ) (ms : List ℕ) → IsWalk b prefix n ms → has n prefix ≡ false
  walk-new prefix n [] is = (remaining-parts b.block prefix n is).2
  walk-new prefix n (m ∷ ms) is = (remaining-parts b.block prefix n is.0).2

  -- every order that goes on from there takes at least the value
  pub chain-sound : (prefix rest : List ℕ) (numbers : List ℕ) → IsBeginning b.block prefix → Completes b.block prefix rest → IsChain b prefix numbers → chain_value b prefix numbers ≤ total_of b (prefix ++ rest)
  chain-sound prefix rest [] begins h is = absurd is
  chain-sound prefix rest (n ∷ ms) begins h is =
      let s = points_of b prefix in
      let v = head s (row_at b n) in
      let order : IsOrder b.block (prefix ++ rest) = (GoesOn-join b.block [] prefix rest begins h.0, h.1) in
      let e : points_of b (prefix ++ rest) ≡ points_after b s rest = points_after-append b [] prefix rest in
      let start : Each n (λ p. p.start) v (points_after b s rest) = head-run n v s rest (last-is_greatest b prefix) (omega arith) (Each-none b n (λ p. p.start) v [] prefix (walk-new prefix n ms is) tt) in
      walk-sound (prefix ++ rest) order n v ms prefix is (subst (λ x. Each n (λ p. p.start) v x) (sym e) start)
