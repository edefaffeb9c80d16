-- A number that finds nothing later after some points than after others comes no later. After a push of it on both, what found nothing later still doesn't, and points that were no later than others still are.
use Rattle.std.proofs.Common.{ℕ, ◌+◌, ◌%◌, ◌≤◌, ◌<◌, ◌≡◌, Bool, true, false, cond, ◌&&◌, max, min, List, [], ◌∷◌, refl, ap, arith, inl, inr, ltb, eqb, map, lt-ltb, le-ltb}
use Rattle.std.proofs.lemmas.Bool.{cases_Bool}
use Rattle.s66_isa.specs.{Kind, Memory, Reg, greatest, tally, Among, Row, Write, same_reg, same_kind, has_reg, memory_pair, touches, stores}
use Rattle.s66_isa.specs.declared.instr.Memory.TheVariants as memory
use Rattle.s66_isa.proofs.Lists.{cases_le, greatest-le, le-greatest, greatest-same}
use Rattle.s66_model.specs.{fits_at, Problem, ResultAt, Point, row_at, copies, next, next_parcel, slot_of, busy_at, issue_of, start_of, done_at, done_of, last_done, memory_wait, readers_wait, end_of}
use Rattle.s66_model.specs.{result_at, free_after, point, point_of, place_in_word, references_wait, stores_wait, Clamp}
use Rattle.s66_model.proofs.Issue.{issue-is}
use Rattle.s66_model.proofs.PointTimes.{good-at, point_of-row, next-le-issue, issue-le-start}
use Rattle.s66_model.proofs.ChainBound.{reads-le-start, memory-le-start}

-- q is no later than s or the clamps, with the busy units counted
pub record Below (b : Problem) (c : Clamp) (q s : List Point) : Type 0 where
  pub slot : next q ≤ next s
  pub phase : place_in_word q ≡ place_in_word s
  pub writers : (r : Reg) → done_of q r ≤ max (done_of s r) c.others
  pub readers : (r : Reg) → readers_wait q r ≤ max (readers_wait s r) c.readers
  pub busy : (kind : Kind) (t : ℕ) → c.others ≤ t → min (copies b kind) (tally (busy_at kind t) q) ≤ min (copies b kind) (tally (busy_at kind t) s)
  pub references : references_wait q ≤ max (references_wait s) c.others
  pub stores : stores_wait q ≤ max (stores_wait s) c.others

-- n finds nothing later after q than after s, or than it issues and starts, with the busy units counted
pub record FindsBelow (b : Problem) (q s : List Point) (issue start n : ℕ) : Type 0 where
  pub writers : (w : Write) → Among w (row_at b n).writes → done_of q w.reg ≤ max (done_of s w.reg) issue
  pub busy : (t : ℕ) → issue ≤ t → min (copies b (row_at b n).kind) (tally (busy_at (row_at b n).kind t) q) ≤ min (copies b (row_at b n).kind) (tally (busy_at (row_at b n).kind t) s)
  pub operands : (x : Reg) → Among x (row_at b n).reads → done_of q x ≤ max (done_of s x) start
  pub memory : memory_wait q (row_at b n) ≤ max (memory_wait s (row_at b n)) start
  pub readers : (w : Write) → Among w (row_at b n).writes → readers_wait q w.reg ≤ max (readers_wait s w.reg) (start + w.latency)

-- WHAT COMES NEXT

abbrev pub pad : ℕ → ℕ → ℕ
pad len phase = cond (eqb len 2 && eqb phase 3) 1 0

fits-is : (q len : ℕ) → fits_at q len ≡ q + pad len (q % 4)
fits-is q len =
    elim (cases_Bool (eqb len 2 && eqb (q % 4) 3)) [
      | inl is ↦ rw is (omega arith)
      | inr is ↦ rw is (omega arith)
    ]

pub and_false : (x : Bool) → (x && false) ≡ false
and_false true = refl
and_false false = refl

pad_zero : (len : ℕ) → pad len 0 ≡ 0
pad_zero len = rw (and_false (eqb len 2)) refl

pub slot-is : (s : List Point) (len : ℕ) → slot_of s len ≡ next s + pad len (place_in_word s)
slot-is [] len = omega (arith, pad_zero len)
slot-is (p ∷ s) len = omega (arith, fits-is (p.parcel + p.row.parcels) len)

pub slot-le : (q s : List Point) (len : ℕ) → next q ≤ next s → place_in_word q ≡ place_in_word s → slot_of q len ≤ slot_of s len
slot-le q s len le same = omega (arith, slot-is q len, slot-is s len, ap (pad len) same, le)

fits_place : (x y len : ℕ) → x % 4 ≡ y % 4 → (fits_at x len + len) % 4 ≡ (fits_at y len + len) % 4
fits_place x y len same =
    elim (cases_Bool (eqb len 2 && eqb (y % 4) 3)) [
      | inl is ↦ rw (same, is) (omega arith)
      | inr is ↦ rw (same, is) (omega arith)
    ]

pub phase-push : (b : Problem) (q s : List Point) (n : ℕ) → place_in_word q ≡ place_in_word s → place_in_word (point_of b q n ∷ q) ≡ place_in_word (point_of b s n ∷ s)
unfolding point
phase-push b q s n same = fits_place (next_parcel q) (next_parcel s) (row_at b n).parcels same

-- WHAT EACH WAITS FOR

-- what a reference waits for: a load for stores, a store for all references
pub pair-none : (m : Memory) → memory_pair m memory.None ≡ false
pair-none memory.None = refl
pair-none memory.Load = refl
pair-none memory.Store = refl

pub pair-load : (m : Memory) → memory_pair m memory.Load ≡ stores m
pair-load memory.None = refl
pair-load memory.Load = refl
pair-load memory.Store = refl

pub pair-store : (m : Memory) → memory_pair m memory.Store ≡ touches m
pair-store memory.None = refl
pair-store memory.Load = refl
pair-store memory.Store = refl

abbrev wait_word : (Memory → Bool) → List Point → ℕ
wait_word k s = greatest (λ (p : Point). cond (k p.row.memory) (p.start + 1) 0) s

wait-same : (k l : Memory → Bool) → ((m : Memory) → k m ≡ l m) → (s : List Point) → wait_word k s ≡ wait_word l s
wait-same k l h s =
    greatest-same (λ (p : Point). cond (k p.row.memory) (p.start + 1) 0) (λ (p : Point). cond (l p.row.memory) (p.start + 1) 0) s (λ p _. ap (λ t. cond {A = ℕ} t (p.start + 1) 0) (h p.row.memory))

wait-none : (s : List Point) → wait_word (λ k. memory_pair k memory.None) s ≡ 0
wait-none [] = refl
wait-none (p ∷ s) = rw (pair-none p.row.memory) (omega (arith, wait-none s))

pub memory-clamped : (m : Memory) (q s : List Point) (c start : ℕ) → references_wait q ≤ max (references_wait s) c → stores_wait q ≤ max (stores_wait s) c → c ≤ start → wait_word (λ k. memory_pair k m) q ≤ max (wait_word (λ k. memory_pair k m) s) start
memory-clamped memory.None q s c start refs stored late = omega (arith, wait-none q)
memory-clamped memory.Load q s c start refs stored late =
    omega (arith, wait-same (λ k. memory_pair k memory.Load) stores pair-load s, wait-same (λ k. memory_pair k memory.Load) stores pair-load q)
memory-clamped memory.Store q s c start refs stored late =
    omega (arith, wait-same (λ k. memory_pair k memory.Store) touches pair-store s, wait-same (λ k. memory_pair k memory.Store) touches pair-store q)

-- results that come no later, each register waiting for its readers
results-le : (k : Reg → Bool → Bool) (q s : List Point) (start early : ℕ) → early ≤ start → (ws : List Write) → ((w : Write) → Among w ws → readers_wait q w.reg ≤ max (readers_wait s w.reg) (start + w.latency)) → greatest (λ (d : ResultAt). cond (k d.reg d.held) d.time 0) (map (result_at q early) ws) ≤ greatest (λ (d : ResultAt). cond (k d.reg d.held) d.time 0) (map (result_at s start) ws)
results-le k q s start early le [] h = omega arith
results-le k q s start early le (w ∷ ws) h =
    let ih = results-le k q s start early le ws (λ v among. h v (inr among)) in
    let here : max (early + w.latency) (readers_wait q w.reg) ≤ max (start + w.latency) (readers_wait s w.reg) = omega (arith, h w (inl refl)) in
    elim (cases_Bool (k w.reg w.held)) [
      | inl is ↦ rw is (omega arith)
      | inr is ↦ rw is (omega arith)
    ]

free-le : (q s : List Point) (start early hold : ℕ) → early ≤ start → (ws : List Write) → ((w : Write) → Among w ws → readers_wait q w.reg ≤ max (readers_wait s w.reg) (start + w.latency)) → free_after early hold (map (result_at q early) ws) ≤ free_after start hold (map (result_at s start) ws)
free-le q s start early hold le [] h = omega arith
free-le q s start early hold le (w ∷ ws) h = omega (arith, results-le (λ _ held. held) q s start early le (w ∷ ws) h)

cond_le : (t : Bool) (x y : ℕ) → x ≤ y → cond t x 0 ≤ cond t y 0
cond_le true x y h = h
cond_le false x y h = omega arith

later_le : (t x y : ℕ) → x ≤ y → cond (ltb t x) 1 0 ≤ cond {A = ℕ} (ltb t y) 1 0
later_le t x y h =
    elim (cases_le x t) [
      | inl le ↦ rw (le-ltb t x le) (omega arith)
      | inr lt ↦ rw (lt-ltb t x lt, lt-ltb t y (omega arith)) (omega arith)
    ]

busy_one : (k : Bool) (t x y : ℕ) → x ≤ y → cond (k && ltb t x) 1 0 ≤ cond {A = ℕ} (k && ltb t y) 1 0
busy_one true t x y h = later_le t x y h
busy_one false t x y h = omega arith

-- A NUMBER THAT FINDS NOTHING LATER than it issues and starts after s

module _ (b : Problem) (q s : List Point) (n : ℕ) (h : FindsBelow b q s (point_of b s n).issue (point_of b s n).start n) (slot : slot_of q (row_at b n).parcels ≤ slot_of s (row_at b n).parcels) where
  pub issue-below : (point_of b q n).issue ≤ (point_of b s n).issue
  unfolding point
  issue-below =
      let r : Row = row_at b n in
      let t = issue_of b s r in
      let is = issue-is b s r in
      let free : tally (busy_at r.kind t) q < copies b r.kind = omega (arith, h.busy t (omega arith), is.passes.0) in
      let by : (w : Write) → Among w r.writes → done_of q w.reg ≤ t = λ w among.
      omega (arith, h.writers w among, greatest-le (λ (p : Point). done_at p w.reg) t s (λ p in_s. is.passes.1 p in_s w among)) in
      (issue-is b q r).least t (omega (arith, slot, is.late)) (free, λ p in_q w among. omega (arith, by w among, le-greatest (λ (v : Point). done_at v w.reg) p q in_q))

  pub slot-push : next (point_of b q n ∷ q) ≤ next (point_of b s n ∷ s)
  slot-push = rw (point_of-row b q n, point_of-row b s n) (omega (arith, issue-below))

  module _ (last_q : (x : Reg) → last_done x q ≡ done_of q x) (last_s : (x : Reg) → last_done x s ≡ done_of s x) where
    operand-by : (x : Reg) → Among x (row_at b n).reads → last_done x q ≤ (point_of b s n).start
    operand-by x among =
        omega (arith, h.operands x among, last_q x, last_s x, le-greatest (λ y. last_done y s) x (row_at b n).reads among, reads-le-start b s n)

    pub start-below : (point_of b q n).start ≤ (point_of b s n).start
    unfolding point start_of
    start-below =
        let r : Row = row_at b n in
        omega (arith, issue-below, greatest-le (λ x. last_done x q) (point_of b s n).start r.reads operand-by, h.memory, memory-le-start b s n)

    pub done-below : (x : Reg) → done_at (point_of b q n) x ≤ done_at (point_of b s n) x
    unfolding point
    done-below x =
        let r : Row = row_at b n in
        results-le (λ reg _. same_reg reg x) q s (start_of b s r) (start_of b q r) start-below r.writes h.readers

    pub free-below : (point_of b q n).free ≤ (point_of b s n).free
    unfolding point
    free-below =
        let r : Row = row_at b n in
        free-le q s (start_of b s r) (start_of b q r) r.hold start-below r.writes h.readers

    pub end-below : end_of (point_of b q n) ≤ end_of (point_of b s n)
    unfolding point
    end-below =
        let r : Row = row_at b n in
        omega (arith, free-below, results-le (λ _ _. true) q s (start_of b s r) (start_of b q r) start-below r.writes h.readers)

    -- PUSHED ON BOTH

    wait-below : (test : Row → Bool) → cond (test (point_of b q n).row) ((point_of b q n).start + 1) 0 ≤ cond (test (point_of b s n).row) ((point_of b s n).start + 1) 0
    wait-below test =
        rw (point_of-row b q n, point_of-row b s n) (cond_le (test (row_at b n)) ((point_of b q n).start + 1) ((point_of b s n).start + 1) (omega (arith, start-below)))

    busy-below : (kind : Kind) (t : ℕ) → cond (busy_at kind t (point_of b q n)) 1 0 ≤ cond {A = ℕ} (busy_at kind t (point_of b s n)) 1 0
    busy-below kind t =
        rw (point_of-row b q n, point_of-row b s n) (busy_one (same_kind (row_at b n).kind kind) t (point_of b q n).free (point_of b s n).free free-below)

    -- what another number finds
    pub finds-push : (issue start m : ℕ) → FindsBelow b q s issue start m → FindsBelow b (point_of b q n ∷ q) (point_of b s n ∷ s) issue start m
    finds-push issue start m k =
        record {
          writers = λ w among. omega (arith, done-below w.reg, k.writers w among);
          busy = λ t late. omega (arith, busy-below (row_at b m).kind t, k.busy t late);
          operands = λ x among. omega (arith, done-below x, k.operands x among);
          memory = omega (arith, wait-below (λ r. memory_pair r.memory (row_at b m).memory), k.memory);
          readers = λ w among. omega (arith, wait-below (λ r. has_reg w.reg r.reads), k.readers w among);
        }

    below-push : (c : Clamp) → Below b c q s → Below b c (point_of b q n ∷ q) (point_of b s n ∷ s)
    below-push c k =
        record {
          slot = slot-push;
          phase = phase-push b q s n k.phase;
          writers = λ x. omega (arith, done-below x, k.writers x);
          readers = λ x. omega (arith, wait-below (λ r. has_reg x r.reads), k.readers x);
          busy = λ kind t late. omega (arith, busy-below kind t, k.busy kind t late);
          references = omega (arith, wait-below (λ r. touches r.memory), k.references);
          stores = omega (arith, wait-below (λ r. stores r.memory), k.stores);
        }

-- CLAMPED NO LATER THAN WHAT COMES NEXT

module _ (b : Problem) (c : Clamp) (q s : List Point) (n : ℕ) (h : Below b c q s) (others : c.others ≤ next s) (readers : c.readers ≤ next s + 1) where
  below-finds : FindsBelow b q s (point_of b s n).issue (point_of b s n).start n
  below-finds =
      let issue : c.others ≤ (point_of b s n).issue = omega (arith, others, next-le-issue b s n) in
      let start : c.others ≤ (point_of b s n).start = omega (arith, issue, issue-le-start b s n) in
      record {
        writers = λ w _. omega (arith, h.writers w.reg, issue);
        busy = λ t late. h.busy (row_at b n).kind t (omega (arith, issue, late));
        operands = λ x _. omega (arith, h.writers x, start);
        memory = memory-clamped (row_at b n).memory q s c.others (point_of b s n).start h.references h.stores start;
        readers = λ w among. omega (arith, h.readers w.reg, readers, next-le-issue b s n, issue-le-start b s n, ((good-at b n).latencies w among).0);
      }

  pub push-below : ((x : Reg) → last_done x q ≡ done_of q x) → ((x : Reg) → last_done x s ≡ done_of s x) → Below b c (point_of b q n ∷ q) (point_of b s n ∷ s)
  push-below last_q last_s = below-push b q s n below-finds (slot-le q s (row_at b n).parcels h.slot h.phase) last_q last_s c h
