-- What the words of a past are, point by point.
use Rattle.std.proofs.Common.{ℕ, ◌+◌, ◌-◌, ◌≤◌, ◌<◌, ◌≡◌, ◌≢◌, false, true≢false, ◌||◌, ◌&&◌, cond, max, min, List, [], ◌∷◌, ◌++◌, length, drop, take, replicate, get_or, set, refl, sym, ap, subst}
use Rattle.std.proofs.Common.{arith, inl, inr, ltb, ◌∙◌, lt-ltb, le-ltb, eqb-true, eq-eqb, get_or-set_same, get_or-set_other, length-append, take_all}
use Rattle.std.proofs.lemmas.Bool.{cases_Bool, cases_lt}
use Rattle.std.proofs.lemmas.List.{get_or-replicate, get_or_append_left, get_or-append_right, at_drop_more, take-append-le}
use Rattle.s66_isa.specs.{greatest, tally, KIND_COUNT, Kind, Boolean, Shift, Add, LongAdd, Multiply, Divide, Increment, Reg, REGISTER_COUNT, index_of, word_of, same_reg, has_reg, same_kind}
use Rattle.s66_isa.specs.{kind_number, memory_pair}
use Rattle.s66_isa.specs.declared.instr.Memory.TheVariants as memory
use Rattle.s66_isa.proofs.Lists.{greatest-append, tally-append}
use Rattle.s66_isa.proofs.RegisterBits.{index-few, raised-twice}
use Rattle.s66_isa.proofs.SameRegister.{same_reg-sym}
use Rattle.s66_model.specs.{Point, ResultAt, busy_at, done_at, end_of}
use Rattle.s66_model.proofs.PushedBoth.{pair-none}
use Rattle.s66_checker.specs.{AreFree, never_busy, AreWords, ArePast, Words, FreeTimes}

-- REGISTERS

-- one more register is raised, of those that are left
pub raised-next : (r x : Reg) (xs : List Reg) (i t w new all : ℕ) → i < length xs → x ≡ get_or xs i x → max w (cond (has_reg r (drop i xs)) t 0) ≡ all → new ≡ max w (cond (same_reg x r) t 0) →
    max new (cond (has_reg r (drop (i + 1) xs)) t 0) ≡ all
raised-next r x xs i t w new all lt is e1 e2 =
    let here : has_reg r (drop i xs) ≡ (same_reg x r || has_reg r (drop (i + 1) xs)) =
    at_drop_more (has_reg r) xs i x lt ∙ ap (λ y. same_reg r y || has_reg r (drop (i + 1) xs)) (sym is) ∙ ap (λ b. b || has_reg r (drop (i + 1) xs)) (same_reg-sym r x)
    in
    ap (λ k. max k (cond (has_reg r (drop (i + 1) xs)) t 0)) e2 ∙ raised-twice (same_reg x r) (has_reg r (drop (i + 1) xs)) w t ∙ ap (λ b. max w (cond b t 0)) (sym here) ∙ e1

-- UNITS

pub held : (t f : ℕ) → t < f → ◌≡◌ {A = ℕ} (cond (ltb t f) 1 0) 1
held t f lt = ap (λ b. cond b 1 0) (lt-ltb t f lt)

pub past : (t f : ℕ) → f ≤ t → ◌≡◌ {A = ℕ} (cond (ltb t f) 1 0) 0
past t f le = ap (λ b. cond b 1 0) (le-ltb t f le)

-- one more instruction holds a unit
pub free-with : (busy : ℕ → ℕ) (f new : FreeTimes) (free : ℕ) → AreFree busy f → new.all ≡ max f.all free → new.all_but_one ≡ max f.all_but_one (min f.all free) →
    AreFree (λ t. busy t + cond (ltb t free) 1 0) new
free-with busy f new free are e1 e2 =
    record {
      none = λ t le. omega (arith, are.none t (omega (arith, le, e1)), past t free (omega (arith, le, e1)));
      some = λ t lt.
          elim (cases_lt t free) [
            | inl here ↦ omega (arith, held t free here)
            | inr there ↦ omega (arith, are.some t (omega (arith, lt, e1, there)))
          ];
      one = λ t le.
          elim (cases_lt t free) [
            | inl here ↦ omega (arith, held t free here, are.none t (omega (arith, le, e2, here)))
            | inr there ↦ omega (arith, past t free there, are.one t (omega (arith, le, e2)))
          ];
      two = λ t lt.
          elim (cases_lt t f.all_but_one) [
            | inl here ↦ omega (arith, are.two t here)
            | inr there ↦ omega (arith, held t free (omega (arith, lt, e2, there)), are.some t (omega (arith, lt, e2, there)))
          ];
    }

free-same : (busy other : ℕ → ℕ) (f : FreeTimes) → ((t : ℕ) → other t ≡ busy t) → AreFree busy f → AreFree other f
free-same busy other f same are =
    record {
      none = λ t le. omega (arith, same t, are.none t le);
      some = λ t lt. omega (arith, same t, are.some t lt);
      one = λ t le. omega (arith, same t, are.one t le);
      two = λ t lt. omega (arith, same t, are.two t lt);
    }

-- a unit that is busy at a time was busy before it
busy-before : (t u f : ℕ) → t ≤ u → ◌≤◌ (cond (ltb u f) 1 0) (cond (ltb t f) 1 0)
busy-before t u f le =
    elim (cases_lt u f) [
      | inl lt ↦ omega (arith, held u f lt, held t f (omega (arith, le, lt)))
      | inr ge ↦ omega (arith, past u f ge)
    ]

-- so the busy units of a kind only grow fewer
busy-falls : (kind : Kind) (t u : ℕ) (xs : List Point) → t ≤ u → tally (busy_at kind u) xs ≤ tally (busy_at kind t) xs
busy-falls kind t u [] le = omega arith
busy-falls kind t u (p ∷ xs) le =
    elim (cases_Bool (same_kind p.row.kind kind)) [
      | inl same ↦
          omega (arith, busy-falls kind t u xs le, busy-before t u p.free le, ap (λ b. cond {A = ℕ} (b && ltb u p.free) 1 0) same, ap (λ b. cond {A = ℕ} (b && ltb t p.free) 1 0) same)
      | inr other ↦
          omega (arith, busy-falls kind t u xs le, ap (λ b. cond {A = ℕ} (b && ltb u p.free) 1 0) other, ap (λ b. cond {A = ℕ} (b && ltb t p.free) 1 0) other)
    ]

-- if none is free at a time, the first that is comes later
pub free-later : (kind : Kind) (xs : List Point) (copies t u : ℕ) → copies ≤ tally (busy_at kind t) xs → tally (busy_at kind u) xs < copies → t + 1 ≤ u
free-later kind xs copies t u none some =
    elim (cases_lt t u) [ inl lt ↦ omega (arith, lt) | inr le ↦ absurd (omega (arith, none, some, busy-falls kind u t xs le)) ]

-- MEMORY

-- what references no memory waits for none
pub none-waits : (xs : List Point) → greatest (λ (p : Point). cond {A = ℕ} (memory_pair p.row.memory memory.None) (p.start + 1) 0) xs ≡ 0
none-waits [] = refl
none-waits (p ∷ xs) = omega (arith, none-waits xs, ap (λ b. cond {A = ℕ} b (p.start + 1) 0) (pair-none p.row.memory))

-- ALL WORDS

kind-few : (kind : Kind) → kind_number kind < KIND_COUNT
kind-few Boolean = omega arith
kind-few Shift = omega arith
kind-few Add = omega arith
kind-few LongAdd = omega arith
kind-few Multiply = omega arith
kind-few Divide = omega arith
kind-few Increment = omega arith

idle-free : AreFree (λ t. 0) never_busy
idle-free =
    record {
      none = λ t le. refl;
      some = λ t lt. absurd (omega (arith, lt));
      one = λ t le. omega arith;
      two = λ t lt. absurd (omega (arith, lt));
    }

-- before the first point
pub words-start : (w : Words) → w.done.words ≡ replicate REGISTER_COUNT 0 → w.read.words ≡ replicate REGISTER_COUNT 0 → w.free ≡ replicate KIND_COUNT never_busy → w.load ≡ 0 → w.store ≡ 0 → w.total ≡ 0 → AreWords [] w
words-start w done read free load store total =
    record {
      done = λ r low. ap (λ ws. word_of ws r) done ∙ get_or-replicate REGISTER_COUNT (index_of r) 0 0 (index-few r low);
      read = λ r low. ap (λ ws. word_of ws r) read ∙ get_or-replicate REGISTER_COUNT (index_of r) 0 0 (index-few r low);
      free = λ kind. subst (λ f. AreFree (λ t. 0) f) (sym (ap (λ fs. get_or fs (kind_number kind) never_busy) free ∙ get_or-replicate KIND_COUNT (kind_number kind) never_busy never_busy (kind-few kind))) idle-free;
      load = load;
      store = store;
      total = total;
    }

-- one more point after the others
module _ (xs : List Point) (w w2 : Words) (p : Point) (are : AreWords xs w) where
  pub words-push : ((r : Reg) → r.digit ≤ 7 → word_of w2.done.words r ≡ max (word_of w.done.words r) (greatest (λ (d : ResultAt). cond (same_reg d.reg r) d.time 0) p.results)) →
      ((r : Reg) → r.digit ≤ 7 → word_of w2.read.words r ≡ max (word_of w.read.words r) (cond (has_reg r p.row.reads) (p.start + 1) 0)) →
      (new : FreeTimes) → ((busy : ℕ → ℕ) → AreFree busy (get_or w.free (kind_number p.row.kind) never_busy) → AreFree (λ t. busy t + cond (ltb t p.free) 1 0) new) →
      kind_number p.row.kind < length w.free → w2.free ≡ set w.free (kind_number p.row.kind) new →
      w2.load ≡ max w.load (cond (memory_pair p.row.memory memory.Load) (p.start + 1) 0) → w2.store ≡ max w.store (cond (memory_pair p.row.memory memory.Store) (p.start + 1) 0) →
      w2.total ≡ max w.total (end_of p) → AreWords (xs ++ p ∷ []) w2
  words-push done read new with within free load store total =
      record {
        done = λ r low. omega (arith, done r low, are.done r low, greatest-append (λ (q : Point). done_at q r) xs (p ∷ []));
        read = λ r low. omega (arith, read r low, are.read r low, greatest-append (λ (q : Point). cond {A = ℕ} (has_reg r q.row.reads) (q.start + 1) 0) xs (p ∷ []));
        free = λ kind. units kind;
        load = omega (arith, load, are.load, greatest-append (λ (q : Point). cond {A = ℕ} (memory_pair q.row.memory memory.Load) (q.start + 1) 0) xs (p ∷ []));
        store = omega (arith, store, are.store, greatest-append (λ (q : Point). cond {A = ℕ} (memory_pair q.row.memory memory.Store) (q.start + 1) 0) xs (p ∷ []));
        total = omega (arith, total, are.total, greatest-append end_of xs (p ∷ []));
      }
    where
      place : ℕ
      place = kind_number p.row.kind

      units : (kind : Kind) → AreFree (λ t. tally (busy_at kind t) (xs ++ p ∷ [])) (get_or w2.free (kind_number kind) never_busy)
      units kind =
          elim (cases_Bool (same_kind p.row.kind kind)) [
            | inl same ↦
                let e : kind_number kind ≡ kind_number p.row.kind = sym (eqb-true (kind_number p.row.kind) (kind_number kind) same) in
                let here : get_or w2.free (kind_number kind) never_busy ≡ new = ap (λ fs. get_or fs (kind_number kind) never_busy) free ∙ ap (λ i. get_or (set w.free (kind_number p.row.kind) new) i never_busy) e ∙ get_or-set_same w.free (kind_number p.row.kind) new never_busy within in
                let old : AreFree (λ t. tally (busy_at kind t) xs) (get_or w.free (kind_number p.row.kind) never_busy) = subst (λ i. AreFree (λ t. tally (busy_at kind t) xs) (get_or w.free i never_busy)) e (are.free kind) in
                let more : (t : ℕ) → tally (busy_at kind t) (xs ++ p ∷ []) ≡ tally (busy_at kind t) xs + cond (ltb t p.free) 1 0 =
                λ t. omega (arith, tally-append (busy_at kind t) xs (p ∷ []), ap (λ b. cond {A = ℕ} (b && ltb t p.free) 1 0) same)
                in
                subst (λ f. AreFree (λ t. tally (busy_at kind t) (xs ++ p ∷ [])) f) (sym here)
                (free-same (λ t. tally (busy_at kind t) xs + cond (ltb t p.free) 1 0) (λ t. tally (busy_at kind t) (xs ++ p ∷ [])) new more (with (λ t. tally (busy_at kind t) xs) old))
            | inr other ↦
                let apart : kind_number kind ≢ kind_number p.row.kind = λ e. true≢false (sym (eq-eqb (kind_number p.row.kind) (kind_number kind) (sym e)) ∙ other) in
                let here : get_or w2.free (kind_number kind) never_busy ≡ get_or w.free (kind_number kind) never_busy = ap (λ fs. get_or fs (kind_number kind) never_busy) free ∙ get_or-set_other w.free (kind_number p.row.kind) (kind_number kind) new never_busy apart in
                let more : (t : ℕ) → tally (busy_at kind t) (xs ++ p ∷ []) ≡ tally (busy_at kind t) xs =
                λ t. omega (arith, tally-append (busy_at kind t) xs (p ∷ []), ap (λ b. cond {A = ℕ} (b && ltb t p.free) 1 0) other)
                in
                subst (λ f. AreFree (λ t. tally (busy_at kind t) (xs ++ p ∷ [])) f) (sym here)
                (free-same (λ t. tally (busy_at kind t) xs) (λ t. tally (busy_at kind t) (xs ++ p ∷ [])) (get_or w.free (kind_number kind) never_busy) more (are.free kind))
          ]

-- PASTS

pub past-start : (xs : List Point) (w : Words) (ws : List Words) → xs ≡ [] → AreWords [] w → ws ≡ [] → ArePast xs w ws
past-start xs w ws none are empty =
    record {
      now = subst (λ ys. AreWords ys w) (sym none) are;
      count = ap length empty ∙ sym (ap length none);
      each = λ i d lt. absurd (omega (arith, lt, ap length none));
    }

pub past-push : (xs ys : List Point) (w w2 : Words) (ws vs : List Words) (p : Point) → ArePast xs w ws → (AreWords xs w → AreWords (xs ++ p ∷ []) w2) → ys ≡ xs ++ p ∷ [] → vs ≡ ws ++ w ∷ [] → ArePast ys w2 vs
past-push xs ys w w2 ws vs p is after e1 e2 =
    rw (e1, e2)
    (record {
      now = after is.now;
      count = omega (arith, length-append xs (p ∷ []), length-append ws (w ∷ []), is.count);
      each = λ i d lt.
          elim (cases_lt i (length xs)) [
            | inl before ↦
                rw (take-append-le i xs (p ∷ []) (omega (arith, before)), get_or_append_left ws (w ∷ []) d i (omega (arith, before, is.count))) (is.each i d before)
            | inr last ↦
                let e : i ≡ length xs = omega (arith, lt, last, length-append xs (p ∷ [])) in
                let first : i - length ws ≡ 0 = omega (arith, e, is.count) in
                let own : get_or (ws ++ w ∷ []) i d ≡ w = get_or-append_right ws (w ∷ []) (length ws) i d refl (omega (arith, e, is.count)) ∙ ap (λ k. get_or (w ∷ []) k d) first in
                rw (take-append-le i xs (p ∷ []) (omega (arith, e)) ∙ take_all i xs (omega (arith, e)), own) is.now
          ];
    })
