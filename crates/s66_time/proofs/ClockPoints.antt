-- The point of the next instruction by the words of a clock.
use Rattle.std.proofs.Common.{ℕ, zero, suc, ◌+◌, ◌-◌, ◌≤◌, ◌<◌, ◌≡◌, ◌≢◌, false, true≢false, cond, ◌||◌, max, min, List, [], ◌∷◌, length, take, drop, set, get_or, map, refl, sym, ap, arith, inl, inr}
use Rattle.std.proofs.Common.{leb, ltb, eqb, ◌∙◌, subst, length-take, length-drop, replicate, drop-set-lt, get_or-drop, get_or-take, length-set, set-set, lt-ltb, eq-eqb, le-ltb, le-leb}
use Rattle.std.proofs.lemmas.List.{drop-set-add, take-set-le, set-get_or}
use Rattle.std.proofs.Math.Seq.{take-set-lt}
use Rattle.std.proofs.lemmas.Bool.{cond-true, cond-false, and_left, cases_Bool, lt-leb}
use Rattle.s66_isa.specs.{Write, Row, memory_pair, touches, stores, copies_of, kind_number, same_kind, Kind, Boolean, Shift, Add, LongAdd, Multiply, Divide, Increment, Memory, Profile, greatest}
use Rattle.s66_isa.specs.{tally, weigh, IsInRange}
use Rattle.s66_isa.specs.declared.instr.Memory.TheVariants as memory
use Rattle.s66_isa.proofs.Lists.{cases_le}
use Rattle.s66_model.specs.{references_wait, stores_wait, fits_at, Point, ResultAt, slot_of, next, next_parcel, done_of, last_done, busy_at, issue_of, start_of, total, point, result_at, free_after}
use Rattle.s66_model.specs.{rest_busy}
use Rattle.s66_model.proofs.Issue.{none_busy, issue-join}
use Rattle.s66_model.proofs.LoadBound.{same_kind-true}
use Rattle.s66_model.proofs.Growth.{AreSmall, none-first, fits_at-ge, start-le, start-ge, free-ge}
use Rattle.s66_model.proofs.FreeTimes.{place-le}
use Rattle.s66_time.specs.{Words, COPIES_LIMIT, TOTAL_LIMIT, UNIT_LIMIT, first_unit, units_of, put_back, under, wait_of, IsWords, InTurn, IsSoonest, AreWordsInTurn, Takes, Progress, Saved}
use Rattle.s66_time.proofs.WorkOfKinds.{kinds-few, worked-step}
use Rattle.s66_time.proofs.FreeUnits.{IsLeast, count-free, count-least, count-push, rest-same}

-- WHEN IT ISSUES

pub slot-is : (s : List Point) (len : ℕ) → slot_of s len ≡ next s + (fits_at (next_parcel s) len - next_parcel s)
slot-is [] len = omega (arith, none-first len)
slot-is (p ∷ s) len = omega (arith, fits_at-ge (p.parcel + p.row.parcels) len)

units-within : (p : Profile) (kind : Kind) → (1 ≤ copies_of p kind) × (copies_of p kind ≤ COPIES_LIMIT)
units-within p Boolean = (p.units.0, p.few.0)
units-within p Shift = (p.units.1, p.few.1)
units-within p Add = (p.units.2, p.few.2)
units-within p LongAdd = (p.units.3, p.few.3)
units-within p Multiply = (p.units.4, p.few.4)
units-within p Divide = (p.units.5, p.few.5)
units-within p Increment = (p.units.6, p.few.6)

pub units-length : (p : Profile) (kind : Kind) (words : List ℕ) → length words ≡ UNIT_LIMIT → length (units_of p kind words) ≡ copies_of p kind
units-length p kind words size =
    omega (arith, length-take (copies_of p kind) (drop (first_unit kind) words), length-drop (first_unit kind) words, units-within p kind, kinds-few kind, size)

pub unit-at : (p : Profile) (kind : Kind) (words : List ℕ) (i : ℕ) → i < copies_of p kind → get_or (units_of p kind words) i 0 ≡ get_or words (first_unit kind + i) 0
unit-at p kind words i lt = get_or-take (copies_of p kind) (drop (first_unit kind) words) i 0 lt ∙ get_or-drop (first_unit kind) words i 0

pub soonest-word : (p : Profile) (kind : Kind) (words : List ℕ) (place : ℕ) → IsSoonest p kind words place → get_or (units_of p kind words) (place - first_unit kind) 0 ≡ get_or words place 0
soonest-word p kind words place is =
    let e : first_unit kind + (place - first_unit kind) ≡ place = omega (arith, is.own) in
    unit-at p kind words (place - first_unit kind) is.copy ∙ ap (λ k. get_or words k 0) e

pub soonest-least : (p : Profile) (kind : Kind) (words : List ℕ) (place : ℕ) → length words ≡ UNIT_LIMIT → IsSoonest p kind words place → IsLeast (units_of p kind words) (place - first_unit kind)
soonest-least p kind words place size is =
    let len = units-length p kind words size in
    record {
      within = omega (arith, len, is.copy);
      least = λ j lt.
          let k : j < copies_of p kind = omega (arith, len) in
          omega (arith, soonest-word p kind words place is, unit-at p kind words j k, is.least j k);
    }

-- a unit is free from the time on that the soonest word says
pub unit-free : (p : Profile) (s : List Point) (w : Words) (kind : Kind) (place t : ℕ) → IsWords p s w → IsSoonest p kind w.units.words place → leb (get_or w.units.words place 0) t ≡ ltb (tally (busy_at kind t) s) (copies_of p kind)
unit-free p s w kind place t is soon =
    let c = copies_of p kind in
    let xs = units_of p kind w.units.words in
    let busy : ℕ → ℕ = λ u. tally (busy_at kind u) s in
    let len : length xs ≡ c = units-length p kind w.units.words is.size in
    let least = soonest-least p kind w.units.words place is.size soon in
    let word = soonest-word p kind w.units.words place soon in
    let m = get_or w.units.words place 0 in
    elim (cases_le m t) [
      | inl le ↦ le-leb m t le ∙ sym (lt-ltb (busy t) c (count-free c xs busy (place - first_unit kind) t len (is.units kind) least (omega (arith, word, le))))
      | inr lt ↦
          let full : c ≤ busy t =
          elim (cases_le c (busy t)) [
            | inl le ↦ le
            | inr few ↦ absurd (omega (arith, lt, word, count-least c xs busy (place - first_unit kind) t len (is.units kind) least few))
          ]
          in
          lt-leb m t lt ∙ sym (le-ltb (busy t) c full)
    ]

pub issue-words : (p : Profile) (s : List Point) (w : Words) (r : Row) (place slot written : ℕ) → IsWords p s w → IsSoonest p r.kind w.units.words place →
    slot ≡ slot_of s r.parcels → written ≡ greatest (λ (v : Write). done_of s v.reg) r.writes →
    max slot (max (get_or w.units.words place 0) written) ≡ issue_of (under p) s r
issue-words p s w r place slot written is soon e1 e2 =
    let kind = r.kind in
    let c = copies_of p kind in
    let xs = units_of p kind w.units.words in
    let busy : ℕ → ℕ = λ t. tally (busy_at kind t) s in
    let len : length xs ≡ c = units-length p kind w.units.words is.size in
    let least = soonest-least p kind w.units.words place is.size soon in
    let word = soonest-word p kind w.units.words place soon in
    let m = get_or w.units.words place 0 in
    issue-join (under p) s r written (max slot (max m written)) e2 (omega (arith, e1))
    (count-free c xs busy (place - first_unit kind) (max slot (max m written)) len (is.units kind) least (omega (arith, word)))
    (λ u late few. omega (arith, late, e1, word, count-least c xs busy (place - first_unit kind) u len (is.units kind) least few))

-- WHEN IT STARTS

greatest-same : {X : Type 0} (f g : X → ℕ) → ((x : X) → f x ≡ g x) → (xs : List X) → greatest f xs ≡ greatest g xs
greatest-same f g h [] = refl
greatest-same f g h (x ∷ xs) = omega (arith, h x, greatest-same f g h xs)

wait-one : (m n : Memory) (t : ℕ) → cond (memory_pair m n) t 0 ≡ wait_of n (cond (touches m) t 0) (cond (stores m) t 0)
wait-one memory.None memory.None t = refl
wait-one memory.None memory.Load t = refl
wait-one memory.None memory.Store t = refl
wait-one memory.Load memory.None t = refl
wait-one memory.Load memory.Load t = refl
wait-one memory.Load memory.Store t = refl
wait-one memory.Store memory.None t = refl
wait-one memory.Store memory.Load t = refl
wait-one memory.Store memory.Store t = refl

wait-max : (n : Memory) (a b c d : ℕ) → wait_of n (max a c) (max b d) ≡ max (wait_of n a b) (wait_of n c d)
wait-max memory.None a b c d = refl
wait-max memory.Load a b c d = refl
wait-max memory.Store a b c d = refl

wait-none : (n : Memory) → wait_of n 0 0 ≡ 0
wait-none memory.None = refl
wait-none memory.Load = refl
wait-none memory.Store = refl

pub memory-is : (n : Memory) (s : List Point) → greatest (λ (p : Point). cond (memory_pair p.row.memory n) (p.start + 1) 0) s ≡ wait_of n (references_wait s) (stores_wait s)
memory-is n [] = sym (wait-none n)
memory-is n (p ∷ s) =
    omega (
      arith,
      wait-one p.row.memory n (p.start + 1),
      memory-is n s,
      wait-max n (cond (touches p.row.memory) (p.start + 1) 0) (cond (stores p.row.memory) (p.start + 1) 0) (references_wait s) (stores_wait s),
    )

pub start-words : (p : Profile) (s : List Point) (w : Words) (r : Row) (issue done wait : ℕ) → IsWords p s w → InTurn s →
    issue ≡ issue_of (under p) s r → done ≡ greatest (λ x. done_of s x) r.reads → wait ≡ wait_of r.memory w.progress.refs w.progress.stores →
    max issue (max done wait) ≡ start_of (under p) s r
unfolding start_of
start-words p s w r issue done wait is turn e1 e2 e3 =
    let reads : done ≡ greatest (λ x. last_done x s) r.reads = e2 ∙ greatest-same (λ x. done_of s x) (λ x. last_done x s) (λ x. sym (turn.latest x)) r.reads in
    let memory : wait ≡ greatest (λ (q : Point). cond (memory_pair q.row.memory r.memory) (q.start + 1) 0) s =
    e3 ∙ ap (λ x. wait_of r.memory x w.progress.stores) is.refs ∙ ap (λ x. wait_of r.memory (references_wait s) x) is.stores ∙ sym (memory-is r.memory s) in
    rw (e1, reads, memory) refl

-- WHAT A PUSH CHANGES

-- the units of a kind after one of them was taken
units-own : (p : Profile) (kind : Kind) (words : List ℕ) (place f : ℕ) → IsSoonest p kind words place → units_of p kind (set words place f) ≡ set (units_of p kind words) (place - first_unit kind) f
units-own p kind words place f is =
    let e : first_unit kind + (place - first_unit kind) ≡ place = omega (arith, is.own) in
    ap (λ k. take (copies_of p kind) (drop (first_unit kind) (set words k f))) (sym e)
    ∙ ap (take (copies_of p kind)) (drop-set-add (first_unit kind) words (place - first_unit kind) f)
    ∙ take-set-lt (copies_of p kind) (drop (first_unit kind) words) (place - first_unit kind) f is.copy

units-other : (p : Profile) (kind other : Kind) (words : List ℕ) (place f : ℕ) → IsSoonest p kind words place → kind_number kind ≢ kind_number other → units_of p other (set words place f) ≡ units_of p other words
units-other p kind other words place f is differ =
    elim (cases_le (kind_number other) (kind_number kind)) [
      | inl le ↦
          let j : ℕ = place - first_unit other in
          let e : first_unit other + j ≡ place = omega (arith, is.own) in
          ap (λ k. take (copies_of p other) (drop (first_unit other) (set words k f))) (sym e)
          ∙ ap (take (copies_of p other)) (drop-set-add (first_unit other) words j f)
          ∙ take-set-le (copies_of p other) (drop (first_unit other) words) j f (omega (arith, differ, is.own, (units-within p other).1))
      | inr lt ↦
          ap (take (copies_of p other)) (drop-set-lt (first_unit other) words place f (omega (arith, is.own, is.copy, (units-within p kind).1)))
    ]

units-step : (p : Profile) (s : List Point) (q : Point) (w : Words) (place : ℕ) → IsWords p s w → IsSoonest p q.row.kind w.units.words place → get_or w.units.words place 0 ≤ q.free →
    (kind : Kind) (t : ℕ) → tally (λ (f : ℕ). ltb t f) (units_of p kind (set w.units.words place q.free)) ≡ min (copies_of p kind) (tally (busy_at kind t) (q ∷ s))
units-step p s q w place is soon late kind t =
    elim (cases_Bool (same_kind q.row.kind kind)) [
      | inl same ↦ own kind (same_kind-true q.row.kind kind same)
      | inr other ↦
          let differ : kind_number q.row.kind ≢ kind_number kind = λ e. true≢false (sym (eq-eqb (kind_number q.row.kind) (kind_number kind) e) ∙ other) in
          ap (tally (λ (f : ℕ). ltb t f)) (units-other p q.row.kind kind w.units.words place q.free soon differ)
          ∙ omega (arith, is.units kind t, not-own kind other)
    ]
  where
    own : (kind : Kind) → q.row.kind ≡ kind → tally (λ (f : ℕ). ltb t f) (units_of p kind (set w.units.words place q.free)) ≡ min (copies_of p kind) (tally (busy_at kind t) (q ∷ s))
    own kind e =
        subst (λ (k : Kind). tally (λ (f : ℕ). ltb t f) (units_of p k (set w.units.words place q.free)) ≡ min (copies_of p k) (tally (busy_at k t) (q ∷ s))) e
        (let k = q.row.kind in
        let self : (u : ℕ) → tally (busy_at k u) (q ∷ s) ≡ cond (ltb u q.free) 1 0 + tally (busy_at k u) s = λ u. rw (eq-eqb (kind_number k) (kind_number k) refl) refl in
        ap (tally (λ (f : ℕ). ltb t f)) (units-own p k w.units.words place q.free soon)
        ∙ count-push (copies_of p k) (units_of p k w.units.words) (λ u. tally (busy_at k u) s) (λ u. tally (busy_at k u) (q ∷ s)) (place - first_unit k) q.free
        (units-length p k w.units.words is.size) (is.units k) (soonest-least p k w.units.words place is.size soon) (omega (arith, soonest-word p k w.units.words place soon)) self t)

    not-own : (kind : Kind) → same_kind q.row.kind kind ≡ false → ◌≡◌ {A = ℕ} (cond (busy_at kind t q) 1 0) 0
    not-own kind other = cond-false {A = ℕ} (busy_at kind t q) 1 0 (and_left (same_kind q.row.kind kind) (ltb t q.free) other)

pub words-step : (p : Profile) (s : List Point) (q : Point) (w w2 : Words) (place : ℕ) → IsWords p s w → IsSoonest p q.row.kind w.units.words place → get_or w.units.words place 0 ≤ q.free → Takes w w2 q place → IsWords p (q ∷ s) w2
words-step p s q w w2 place is soon late takes =
    record {
      done = λ r small. omega (arith, takes.done r small, is.done r small);
      read = λ r small. omega (arith, takes.read r small, is.read r small);
      units = λ kind t. ap (λ (xs : List ℕ). tally (λ (f : ℕ). ltb t f) (units_of p kind xs)) takes.units ∙ units-step p s q w place is soon late kind t;
      size = ap length takes.units ∙ length-set w.units.words place q.free ∙ is.size;
      kinds = ap length takes.worked ∙ length-set w.worked (kind_number q.row.kind) _ ∙ is.kinds;
      worked = worked-step s q w.worked w2.worked is.kinds is.worked takes.worked;
      refs = omega (arith, takes.refs, is.refs);
      stores = omega (arith, takes.stores, is.stores);
      parcel = takes.parcel;
      next = takes.next;
      total = omega (arith, takes.total, is.total);
      pushed = λ m. takes.pushed m ∙ ap (λ t. eqb m q.number || t) (is.pushed m);
    }

-- THE WORDS ARE SMALL

pub small-turn : (s : List Point) → InTurn s → AreSmall s
small-turn s turn = record { starts = turn.starts; parcels = turn.parcels }

next-small : (s : List Point) → InTurn s → next s ≤ total s + 2
next-small [] turn = omega arith
next-small (p ∷ s) turn = omega (arith, turn.starts, turn.parcels)

pub follows-small : (p : Profile) (w : Words) → AreWordsInTurn p w → (w.progress.next ≤ TOTAL_LIMIT + 2) × (w.progress.parcel ≤ TOTAL_LIMIT + 2)
follows-small p w (s, is, turn) = (omega (arith, is.next, next-small s turn, turn.early), omega (arith, is.parcel, next-small s turn, turn.early, turn.parcel))

pub slot-words : (p : Profile) (s : List Point) (w : Words) (len : ℕ) → IsWords p s w → w.progress.next + (fits_at w.progress.parcel len - w.progress.parcel) ≡ slot_of s len
slot-words p s w len is =
    ap (λ n. n + (fits_at w.progress.parcel len - w.progress.parcel)) is.next
    ∙ ap (λ q. next s + (fits_at q len - q)) is.parcel ∙ sym (slot-is s len)

pub start-early : (p : Profile) (s : List Point) (r : Row) (issue start : ℕ) → InTurn s → issue ≡ issue_of (under p) s r → start ≡ start_of (under p) s r → (issue ≤ TOTAL_LIMIT + 3) × (start ≤ TOTAL_LIMIT + 3)
start-early p s r issue start turn e1 e2 =
    let le : start_of (under p) s r ≤ total s + 3 = start-le (under p) s r (small-turn s turn) in
    (omega (arith, e1, start-ge (under p) s r, le, turn.early), omega (arith, e2, le, turn.early))

-- BEFORE THE FIRST PUSH

none-later : (t n : ℕ) → tally (λ (f : ℕ). ltb t f) (replicate n 0) ≡ 0
none-later t zero = refl
none-later t (suc n) = omega (arith, cond-false {A = ℕ} (ltb t 0) 1 0 (le-ltb t 0 (omega arith)), none-later t n)

take-zeros : (c n : ℕ) → (m : ℕ) × (◌≡◌ {A = List ℕ} (take c (replicate n 0)) (replicate m 0))
take-zeros zero n = (0, refl)
take-zeros (suc c) zero = (0, refl)
take-zeros (suc c) (suc n) = (let (m, e) = take-zeros c n in (suc m, ap (λ xs. 0 ∷ xs) e))

drop-zeros : (c n : ℕ) → (m : ℕ) × (◌≡◌ {A = List ℕ} (drop c (replicate n 0)) (replicate m 0))
drop-zeros zero n = (n, refl)
drop-zeros (suc c) zero = (0, refl)
drop-zeros (suc c) (suc n) = drop-zeros c n

pub zero-units : (p : Profile) (kind : Kind) (t : ℕ) (words : List ℕ) → words ≡ replicate UNIT_LIMIT 0 → tally (λ (f : ℕ). ltb t f) (units_of p kind words) ≡ min (copies_of p kind) (tally (busy_at kind t) [])
zero-units p kind t words is =
    let (m, e1) = drop-zeros (first_unit kind) UNIT_LIMIT in
    let (k, e2) = take-zeros (copies_of p kind) m in
    let e : units_of p kind words ≡ replicate k 0 = ap (units_of p kind) is ∙ ap (take (copies_of p kind)) e1 ∙ e2 in
    omega (arith, ap (tally (λ (f : ℕ). ltb t f)) e, none-later t k)

pub start-le3 : (p : Profile) (s : List Point) (r : Row) (issue start : ℕ) → InTurn s → issue ≡ issue_of (under p) s r → start ≡ start_of (under p) s r → start ≤ total s + 3
start-le3 p s r issue start turn e1 e2 = omega (arith, e2, start-le (under p) s r (small-turn s turn))

-- A UNIT IS TAKEN AFTER IT IS FREE

pub unit-late : (p : Profile) (s : List Point) (w : Words) (r : Row) (n place : ℕ) → IsInRange r → IsWords p s w → IsSoonest p r.kind w.units.words place → get_or w.units.words place 0 ≤ (point (under p) s n r).free
unfolding point
unit-late p s w r n place good is soon =
    omega (
      arith,
      issue-words p s w r place (slot_of s r.parcels) (greatest (λ (v : Write). done_of s v.reg) r.writes) is soon refl refl,
      start-ge (under p) s r,
      free-ge s (start_of (under p) s r) r.hold r.writes good.hold.0 good.unit,
    )

-- WHAT WAS WRITTEN OVER COMES BACK

pub words-back : (done done2 read read2 units worked : List ℕ) (progress : Progress) (ds rs : List Saved) (unit f kind more : ℕ) → put_back ds done2 ≡ done → put_back rs read2 ≡ read →
    ◌≡◌ {A = Words} (record { done = record { words = put_back ds done2 }; read = record { words = put_back rs read2 }; units = record { words = set (set units unit f) unit (get_or units unit 0) }; worked = set (set worked kind more) kind (get_or worked kind 0); progress = progress })
    (record { done = record { words = done }; read = record { words = read }; units = record { words = units }; worked = worked; progress = progress })
words-back done done2 read read2 units worked progress ds rs unit f kind more e1 e2 =
    rw (set-set units unit f (get_or units unit 0), set-get_or units unit 0, set-set worked kind more (get_or worked kind 0), set-get_or worked kind 0, e1, e2) refl

kind-of-point : (p : Profile) (s : List Point) (w : Words) (r : Row) (n place : ℕ) → IsSoonest p r.kind w.units.words place → IsSoonest p (point (under p) s n r).row.kind w.units.words place
unfolding point
kind-of-point p s w r n place soon = soon

pub pushed-words : (p : Profile) (s : List Point) (w w2 : Words) (r : Row) (n place : ℕ) (q : Point) → IsInRange r → IsWords p s w → IsSoonest p r.kind w.units.words place → q ≡ point (under p) s n r → Takes w w2 q place →
    IsWords p (point (under p) s n r ∷ s) w2
pushed-words p s w w2 r n place q good is soon e takes =
    let here : Takes w w2 (point (under p) s n r) place = subst (λ (x : Point). Takes w w2 x place) e takes in
    words-step p s (point (under p) s n r) w w2 place is (kind-of-point p s w r n place soon) (unit-late p s w r n place good is soon) here

pub unit-greatest : (p : Profile) (kind : Kind) (words : List ℕ) (place i : ℕ) → place ≡ first_unit kind + i → i < copies_of p kind → get_or words place 0 ≤ greatest (λ (w : ℕ). w) (units_of p kind words)
unit-greatest p kind words place i e lt =
    omega (arith, ap (λ k. get_or words k 0) e, unit-at p kind words i lt, place-le (units_of p kind words) i)

none_greatest : (t : ℕ) (xs : List ℕ) → tally (λ (w : ℕ). ltb t w) xs ≡ 0 → greatest (λ (w : ℕ). w) xs ≤ t
none_greatest t [] h = omega arith
none_greatest t (x ∷ xs) h =
    elim (cases_le x t) [
      | inl le ↦ omega (arith, none_greatest t xs (omega arith))
      | inr lt ↦ absurd (omega (arith, cond-true {A = ℕ} (ltb t x) 1 0 (lt-ltb t x lt)))
    ]

-- no unit's word is later than all points
pub units-small : (p : Profile) (s : List Point) (w : Words) (kind : Kind) → IsWords p s w → greatest (λ (f : ℕ). f) (units_of p kind w.units.words) ≤ total s
units-small p s w kind is =
    none_greatest (total s) (units_of p kind w.units.words) (omega (arith, is.units kind (total s), none_busy kind (total s) s (omega arith)))

-- what is left of the work of a kind after the next slot
pub busy-words : (p : Profile) (s : List Point) (w : Words) (kind : Kind) → IsWords p s w → tally (busy_at kind (next s)) s ≤ copies_of p kind →
    weigh (λ (f : ℕ). f - w.progress.next) (units_of p kind w.units.words) ≡ weigh (rest_busy kind (next s)) s
busy-words p s w kind is fits =
    ap (λ t. weigh (λ (f : ℕ). f - t) (units_of p kind w.units.words)) is.next
    ∙ rest-same kind (copies_of p kind) (units_of p kind w.units.words) s (next s) (is.units kind) fits

-- if a kind has one unit, its word is all that is left
weigh-one : (f : ℕ → ℕ) (xs : List ℕ) → length xs ≡ 1 → weigh f xs ≡ f (get_or xs 0 0)
weigh-one f [] one = absurd (omega (arith, one))
weigh-one f (x ∷ []) one = omega arith
weigh-one f (x ∷ (y ∷ xs)) one = absurd (omega (arith, one))

pub only-unit : (p : Profile) (kind : Kind) (words : List ℕ) (t : ℕ) → length words ≡ UNIT_LIMIT → copies_of p kind ≡ 1 → t + weigh (λ (f : ℕ). f - t) (units_of p kind words) ≡ max (get_or words (first_unit kind) 0) t
only-unit p kind words t size one =
    let place : first_unit kind + 0 ≡ first_unit kind = omega arith in
    omega (
      arith,
      weigh-one (λ (f : ℕ). f - t) (units_of p kind words) (units-length p kind words size ∙ one),
      ap (λ k. k - t) (unit-at p kind words 0 (omega (arith, one))),
      ap (λ k. get_or words k 0 - t) place,
    )

pub point-by : (p : Profile) (s : List Point) (n : ℕ) (r : Row) (parcel issue start : ℕ) (results : List ResultAt) (free : ℕ) →
    parcel ≡ fits_at (next_parcel s) r.parcels → issue ≡ issue_of (under p) s r → start ≡ start_of (under p) s r → results ≡ map (result_at s start) r.writes → free ≡ free_after start r.hold results →
    ◌≡◌ {A = Point} (record { number = n; row = r; parcel = parcel; issue = issue; start = start; results = results; free = free }) (point (under p) s n r)
unfolding point
point-by p s n r parcel issue start results free e1 e2 e3 e4 e5 = rw (e5, e4, e3, e2, e1) refl
