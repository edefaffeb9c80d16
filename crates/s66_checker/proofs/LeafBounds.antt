-- The parts of which leaves' values are made fit into the machine's numbers: heads, links, tails, and work.
use Rattle.std.proofs.Common.{ℕ, ◌+◌, ◌≤◌, ◌≡◌, true, false, true≢false, ◌&&◌, cond, max, List, [], ◌∷◌, reverse, refl, sym, ap, arith, inl, inr, ◌∙◌}
use Rattle.std.proofs.lemmas.Bool.{cond_both, cases_Bool, and_parts, and_from}
use Rattle.s66_isa.specs.{Kind, Reg, greatest, weigh, Row, Write, same_kind, memory_pair, IsInRange}
use Rattle.s66_isa.proofs.Lists.{greatest-le, greatest-same, greatest-le-greatest}
use Rattle.s66_model.specs.{Problem, Point, row_at, copies, points_of, total, next, done_of, done_at, end_of, is_remaining, sum_remaining, tail, uses, work_of, link, is_linked, head, over, load}
use Rattle.s66_model.specs.{rest_busy}
use Rattle.s66_model.proofs.Issue.{done_of-le-total}
use Rattle.s66_checker.specs.{TOTAL_LIMIT, AreTimed, is_walk}
use Rattle.s66_checker.proofs.Reversed.{greatest-reverse}
use Rattle.s66_checker.proofs.KeptPoints.{latencies-le, timed-total}

pub tail-le : (r : Row) → IsInRange r → tail r ≤ 101
tail-le r good = omega (arith, good.hold, latencies-le r good)

pub work-most : (kind : Kind) (r : Row) → IsInRange r → work_of kind r ≤ 101
work-most kind r good = cond_both (same_kind r.kind kind) (r.hold + 1) 0 (λ x. x ≤ 101) (λ _. omega (arith, good.hold)) (λ _. omega arith)

pub link-le : (m n : Row) → IsInRange m → link m n ≤ 100
link-le m n good =
    let used = greatest-le-greatest (λ (w : Write). cond (uses n w.reg) w.latency 0) (λ (w : Write). w.latency) (λ w. cond_both (uses n w.reg) w.latency 0 (λ x. x ≤ w.latency) (λ _. omega arith) (λ _. omega arith)) m.writes in
    let memory = cond_both (memory_pair m.memory n.memory) 1 0 (λ x. x ≤ 1) (λ _. omega arith) (λ _. omega arith) in
    omega (arith, used, memory, latencies-le m good)

-- THE HEAD

registers-le : (xs : List Point) (rs : List Reg) → greatest (λ r. done_of xs r) rs ≤ total xs
registers-le xs rs = greatest-le (λ r. done_of xs r) (total xs) rs (λ r _. done_of-le-total xs r)

writes-le : (xs : List Point) (ws : List Write) → greatest (λ (w : Write). done_of xs w.reg) ws ≤ total xs
writes-le xs ws = greatest-le (λ (w : Write). done_of xs w.reg) (total xs) ws (λ w _. done_of-le-total xs w.reg)

pub head-looked : (xs s : List Point) (r : Row) (slot read written : ℕ) → reverse xs ≡ s → slot ≡ next (reverse xs) → read ≡ greatest (λ x. done_of xs x) r.reads →
    written ≡ greatest (λ (w : Write). done_of xs w.reg) r.writes → max slot (max read written) ≡ head s r
head-looked xs s r slot read written same e1 e2 e3 =
    let here : (x : Reg) → done_of xs x ≡ done_of s x = λ x. sym (greatest-reverse (λ (p : Point). done_at p x) xs) ∙ ap (λ t. done_of t x) same in
    rw (
      e1 ∙ ap next same,
      e2 ∙ greatest-same (λ x. done_of xs x) (λ x. done_of s x) r.reads (λ x _. here x),
      e3 ∙ greatest-same (λ (w : Write). done_of xs w.reg) (λ (w : Write). done_of s w.reg) r.writes (λ w _. here w.reg),
    ) refl

pub head-le : (xs s : List Point) (r : Row) → AreTimed xs → reverse xs ≡ s → next s ≤ TOTAL_LIMIT + 1 → head s r ≤ TOTAL_LIMIT + 1
head-le xs s r timed same soon =
    let total_is : total s ≡ total xs = sym (ap total same) ∙ greatest-reverse end_of xs in
    omega (arith, soon, total_is, timed-total xs timed, registers-le s r.reads, writes-le s r.writes)

-- THE LOAD

pub load-made : (b : Problem) (prefix : List ℕ) (kind : Kind) (work busy count slot : ℕ) → work ≡ sum_remaining b.block prefix (λ n. work_of kind (row_at b n)) →
    busy ≡ weigh (rest_busy kind (next (points_of b prefix))) (points_of b prefix) → count ≡ copies b kind → slot ≡ next (points_of b prefix) → over (work + busy) count + slot ≡ load b prefix kind
load-made b prefix kind work busy count slot e1 e2 e3 e4 = rw (e1, e2, e3, e4) refl

-- A WALK

walk-remains : (b : Problem) (prefix : List ℕ) (m : ℕ) (ms : List ℕ) → is_walk b prefix m ms ≡ true → is_remaining b.block prefix m ≡ true
walk-remains b prefix m [] h = h
walk-remains b prefix m (k ∷ ms) h =
    (and_parts (is_remaining b.block prefix m) (is_linked b m k) (and_parts (is_remaining b.block prefix m && is_linked b m k) (is_walk b prefix k ms) h).0).0

-- it goes on from one that remains to the next that does and that it has a link to
pub walk-on : (b : Problem) (prefix : List ℕ) (n m : ℕ) (ms : List ℕ) → is_remaining b.block prefix n ≡ true → (is_remaining b.block prefix m && is_linked b n m) ≡ true → is_walk b prefix n (m ∷ ms) ≡ is_walk b prefix m ms
walk-on b prefix n m ms stays goes = rw (stays, (and_parts (is_remaining b.block prefix m) (is_linked b n m) goes).1) refl

-- and nowhere else
pub walk-off : (b : Problem) (prefix : List ℕ) (n m : ℕ) (ms : List ℕ) → (is_remaining b.block prefix m && is_linked b n m) ≡ false → is_walk b prefix n (m ∷ ms) ≡ false
walk-off b prefix n m ms stops =
    elim (cases_Bool (is_walk b prefix n (m ∷ ms))) [
      | inl is ↦
          let parts = and_parts (is_remaining b.block prefix n && is_linked b n m) (is_walk b prefix m ms) is in
          let linked = (and_parts (is_remaining b.block prefix n) (is_linked b n m) parts.0).1 in
          absurd (true≢false (sym (and_from (is_remaining b.block prefix m) (is_linked b n m) (walk-remains b prefix m ms parts.1) linked) ∙ stops))
      | inr off ↦ off
    ]

-- nor from one that doesn't remain
pub walk-none : (b : Problem) (prefix : List ℕ) (n : ℕ) (ms : List ℕ) → is_remaining b.block prefix n ≡ false → is_walk b prefix n ms ≡ false
walk-none b prefix n ms gone =
    elim (cases_Bool (is_walk b prefix n ms)) [
      | inl is ↦ absurd (true≢false (sym (walk-remains b prefix n ms is) ∙ gone))
      | inr off ↦ off
    ]
