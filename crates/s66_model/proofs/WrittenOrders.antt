-- The times of an order follow from the rows of its instructions in turn: a block that is written in the order has the same.
use Rattle.std.proofs.Common.{ℕ, zero, suc, ◌+◌, ◌≡◌, ◌&&◌, ◌∙◌, Bool, cond, max, List, [], ◌∷◌, ◌++◌, length, map, refl, sym, ap, ap₂, subst, arith, append_assoc, length-append, leb, ltb}
use Rattle.std.proofs.Math.Seq.{get_or-append_seam}
use Rattle.s66_isa.specs.{Instr, Profile, Reg, greatest, tally, every, least_from, rising, Row, Write, row, idle_instr, instr_at, numbers, has_reg, memory_pair}
use Rattle.s66_isa.proofs.Lists.{greatest-same}
use Rattle.s66_model.specs.{fits_at, Problem, Point, row_at, copies, done_at, done_of, writes_reg, last_done, end_of, total, next_parcel, parcel_of, slot_of, busy_at, can_issue, issue_of, memory_wait}
use Rattle.s66_model.specs.{start_of, readers_wait, result_at, point, point_of, points_after, points_of, total_of, source_time, written_in}

-- WORDS ON LISTS

pub greatest-map : {X Y : Type 0} (f : Y → ℕ) (g : X → Y) (xs : List X) → greatest f (map g xs) ≡ greatest (λ x. f (g x)) xs
greatest-map f g [] = refl
greatest-map f g (x ∷ xs) = ap (max (f (g x))) (greatest-map f g xs)

tally-map : {X Y : Type 0} (test : Y → Bool) (g : X → Y) (xs : List X) → tally test (map g xs) ≡ tally (λ x. test (g x)) xs
tally-map test g [] = refl
tally-map test g (x ∷ xs) = ap (λ n. cond (test (g x)) 1 0 + n) (tally-map test g xs)

map-map : {X Y Z : Type 0} (f : Y → Z) (g : X → Y) (xs : List X) → map f (map g xs) ≡ map (λ x. f (g x)) xs
map-map f g [] = refl
map-map f g (x ∷ xs) = ap (λ ys. f (g x) ∷ ys) (map-map f g xs)

map-same : {X Y : Type 0} (f g : X → Y) → ((x : X) → f x ≡ g x) → (xs : List X) → map f xs ≡ map g xs
map-same f g same [] = refl
map-same f g same (x ∷ xs) = ap₂ (λ y ys. y ∷ ys) (same x) (map-same f g same xs)

pub every-same : {X : Type 0} (test other : X → Bool) → ((x : X) → test x ≡ other x) → (xs : List X) → every test xs ≡ every other xs
every-same test other same [] = refl
every-same test other same (x ∷ xs) = ap₂ (λ a b. a && b) (same x) (every-same test other same xs)

least_from-same : (test other : ℕ → Bool) → ((t : ℕ) → test t ≡ other t) → (more t : ℕ) → least_from test more t ≡ least_from other more t
least_from-same test other same zero t = refl
least_from-same test other same (suc more) t = ap₂ (λ is later. cond is t later) (same t) (least_from-same test other same more (suc t))

-- a block by its numbers
from-front : (front rest : List Instr) → map (instr_at (front ++ rest)) (rising (length rest) (suc (length front))) ≡ rest
from-front front [] = refl
from-front front (x ∷ rest) =
    let more = front ++ x ∷ [] in
    let next : length more ≡ suc (length front) = omega (arith, length-append front (x ∷ [])) in
    let later : map (instr_at (more ++ rest)) (rising (length rest) (suc (suc (length front)))) ≡ rest =
    subst (λ k. map (instr_at (more ++ rest)) (rising (length rest) (suc k)) ≡ rest) next (from-front more rest)
    in
    ap₂ (λ y ys. y ∷ ys) (get_or-append_seam front x rest idle_instr)
    (subst (λ block. map (instr_at block) (rising (length rest) (suc (suc (length front)))) ≡ rest) (append_assoc front (x ∷ []) rest) later)

pub block-by_numbers : (block : List Instr) → map (instr_at block) (numbers block) ≡ block
block-by_numbers block = from-front [] block

-- POINTS WITHOUT THEIR NUMBERS, which no time depends on

abbrev unnumbered : Point → Point
unnumbered p = record p { number = 0 }

-- no block, under this profile
abbrev no_block : Profile → Problem
no_block profile = record { block = []; profile = profile }

done-same : (s : List Point) (r : Reg) → done_of (map unnumbered s) r ≡ done_of s r
done-same s r = greatest-map (λ (p : Point). done_at p r) unnumbered s

last-same : (r : Reg) (s : List Point) → last_done r (map unnumbered s) ≡ last_done r s
last-same r [] = refl
last-same r (p ∷ s) = ap (cond (writes_reg r p) (done_at p r)) (last-same r s)

total-same : (s : List Point) → total (map unnumbered s) ≡ total s
total-same s = greatest-map end_of unnumbered s

next-same : (s : List Point) → next_parcel (map unnumbered s) ≡ next_parcel s
next-same [] = refl
next-same (p ∷ s) = refl

slot-same : (s : List Point) (len : ℕ) → slot_of (map unnumbered s) len ≡ slot_of s len
slot-same [] len = refl
slot-same (p ∷ s) len = refl

readers-same : (s : List Point) (r : Reg) → readers_wait (map unnumbered s) r ≡ readers_wait s r
readers-same s r = greatest-map (λ (p : Point). cond (has_reg r p.row.reads) (p.start + 1) 0) unnumbered s

memory-same : (s : List Point) (r : Row) → memory_wait (map unnumbered s) r ≡ memory_wait s r
memory-same s r = greatest-map (λ (p : Point). cond (memory_pair p.row.memory r.memory) (p.start + 1) 0) unnumbered s

module _ (b : Problem) (s : List Point) (r : Row) where
  can-same : (t : ℕ) → can_issue (no_block b.profile) (map unnumbered s) r t ≡ can_issue b s r t
  can-same t =
      ap₂ (λ x y. x && y)
      (ap (λ n. ltb n (copies b r.kind)) (tally-map (busy_at r.kind t) unnumbered s))
      (every-same (λ (w : Write). leb (done_of (map unnumbered s) w.reg) t) (λ (w : Write). leb (done_of s w.reg) t) (λ w. ap (λ n. leb n t) (done-same s w.reg)) r.writes)

  issue-same : issue_of (no_block b.profile) (map unnumbered s) r ≡ issue_of b s r
  unfolding issue_of
  issue-same =
      least_from-same (can_issue (no_block b.profile) (map unnumbered s) r) (can_issue b s r) can-same (total (map unnumbered s)) (slot_of (map unnumbered s) r.parcels)
      ∙ ap₂ (λ more t. least_from (can_issue b s r) more t) (total-same s) (slot-same s r.parcels)

  start-same : start_of (no_block b.profile) (map unnumbered s) r ≡ start_of b s r
  unfolding start_of
  start-same =
      ap₂ (λ x y. max x y) issue-same
      (ap₂ (λ x y. max x y) (greatest-same (λ x. last_done x (map unnumbered s)) (λ x. last_done x s) r.reads (λ x _. last-same x s)) (memory-same s r))

  results-same : map (result_at (map unnumbered s) (start_of (no_block b.profile) (map unnumbered s) r)) r.writes ≡ map (result_at s (start_of b s r)) r.writes
  results-same =
      ap (λ start. map (result_at (map unnumbered s) start) r.writes) start-same
      ∙ map-same (result_at (map unnumbered s) (start_of b s r)) (result_at s (start_of b s r))
      (λ w. ap (λ n. record { reg = w.reg; time = max (start_of b s r + w.latency) n; held = w.held }) (readers-same s w.reg)) r.writes

  parcel-same : parcel_of (map unnumbered s) r.parcels ≡ parcel_of s r.parcels
  parcel-same = ap (λ n. fits_at n r.parcels) (next-same s)

  point-same : (n : ℕ) → unnumbered (point b s n r) ≡ point (no_block b.profile) (map unnumbered s) 0 r
  unfolding point
  point-same n = rw (parcel-same, issue-same, results-same, start-same) refl

-- POINTS BY ROWS

abbrev points_by : Profile → List Point → List Row → List Point
points_by profile s [] = s
points_by profile s (r ∷ rs) = points_by profile (point (no_block profile) s 0 r ∷ s) rs

by-rows : (b : Problem) (s : List Point) (ns : List ℕ) → map unnumbered (points_after b s ns) ≡ points_by b.profile (map unnumbered s) (map (row_at b) ns)
by-rows b s [] = refl
by-rows b s (n ∷ ns) =
    by-rows b (point_of b s n ∷ s) ns
    ∙ ap (λ p. points_by b.profile (p ∷ map unnumbered s) (map (row_at b) ns)) (point-same b s (row_at b n) n)

total-by_rows : (b : Problem) (order : List ℕ) → total_of b order ≡ total (points_by b.profile [] (map (row_at b) order))
total-by_rows b order = sym (total-same (points_of b order)) ∙ ap total (by-rows b [] order)

-- THE LAW

same-rows : (b : Problem) (order : List ℕ) → map (row_at (written_in order b)) (numbers (written_in order b).block) ≡ map (row_at b) order
same-rows b order =
    let block = map (instr_at b.block) order in
    sym (map-map (row b.profile) (instr_at block) (numbers block)) ∙ ap (λ ns. map (row b.profile) ns) (block-by_numbers block)
    ∙ map-map (row b.profile) (instr_at b.block) order

pub written-order : (b : Problem) (order : List ℕ) → source_time (written_in order b) ≡ total_of b order
written-order b order =
    total-by_rows (written_in order b) (numbers (written_in order b).block) ∙ ap (λ rows. total (points_by b.profile [] rows)) (same-rows b order)
    ∙ sym (total-by_rows b order)
