-- What dominates in use stays ahead of the other as both go on with the same numbers, so it is no worse below the time. What dominates clamped does so in use.
use Rattle.std.proofs.Common.{ℕ, ◌≤◌, ◌<◌, ◌≡◌, ◌⊎◌, true, not, ◌&&◌, leb, eqb, max, List, [], ◌∷◌, ◌++◌, length, refl, sym, arith, inl, inr, subst, append_assoc, length-append, ◌∙◌, le-leb}
use Rattle.std.proofs.Common.{append-nil}
use Rattle.std.proofs.lemmas.Bool.{and_parts, and_from, or_parts, not_from_false}
use Rattle.s66_isa.specs.{Instr, has}
use Rattle.s66_model.specs.{Problem, Point, row_at, copies, points_of, point_of, next, slot_of, total_of, IsLegal, IsBeginning, needs_met, is_remaining, is_ready, place_in_word, free_times, IsSameSet}
use Rattle.s66_model.specs.{clamp_at, IsNoLater, DominatesClamped}
use Rattle.s66_model.proofs.SameSet.{is_ready-same}
use Rattle.s66_model.proofs.LegalOrders.{has-push, order-legal}
use Rattle.s66_model.proofs.Remaining.{remaining-parts, step-begins, legal-parts}
use Rattle.s66_model.proofs.PointTimes.{good-at, points_after-append, next-le-issue, issue-le-start}
use Rattle.s66_model.proofs.ChainBound.{last-is_greatest}
use Rattle.s66_model.proofs.FreeTimes.{busy-later, free_times-falling, places-busy}
use Rattle.s66_model.proofs.PushedBoth.{FindsBelow, slot-le, phase-push, memory-clamped, slot-push, end-below, finds-push}
use Rattle.s66_model.proofs.Dominating.{same-push, set-length, clamped-total}
use Rattle.s66_moments.specs.{Issue, Start, At, time_of, soonest, Fact, AreSo, ComesNoSooner, FindsNoLater, DominatesInUse, IsNoWorseBelow}
use Rattle.s66_moments.proofs.Placed.{placed-ready, time_at-placed}
use Rattle.s66_moments.proofs.Soonest.{soonest-le, total-stays}

-- what is found from some moments on is found from later ones on
pub finds-later : (b : Problem) (q s : List Point) (issue start issue2 start2 n : ℕ) → issue ≤ issue2 → start ≤ start2 → FindsNoLater b q s issue start n → FindsNoLater b q s issue2 start2 n
finds-later b q s issue start issue2 start2 n le le2 h =
    record {
      writers = λ w among. omega (arith, h.writers w among, le);
      units = λ i lt. omega (arith, h.units i lt, le);
      operands = λ x among. omega (arith, h.operands x among, le2);
      memory = omega (arith, h.memory, le2);
      readers = λ w among. omega (arith, h.readers w among, le2);
    }

-- UNITS BY PLACES, COUNTED

no_later-below : (b : Problem) (q s : List Point) (issue start n : ℕ) → FindsNoLater b q s issue start n → FindsBelow b q s issue start n
no_later-below b q s issue start n h =
    let kind = (row_at b n).kind in
    record {
      writers = h.writers;
      busy = λ u late. omega (arith, busy-later kind u s, busy-later kind u q, places-busy (copies b kind) issue u (free_times kind s) (free_times kind q) (free_times-falling kind s) (free_times-falling kind q) h.units late);
      operands = h.operands;
      memory = h.memory;
      readers = h.readers;
    }

-- THE SAME NUMBERS ON BOTH

-- In an order: after xs and ys, the other beginning and the prefix with the same numbers more, each number that remains finds nothing later
-- than it issues and starts there.
record StaysAhead (b : Problem) (order : List ℕ) (own : ℕ) (xs ys : List ℕ) : Type 0 where
  begins : IsBeginning b.block xs
  same_set : IsSameSet xs ys
  slot : next (points_of b xs) ≤ next (points_of b ys)
  phase : place_in_word (points_of b xs) ≡ place_in_word (points_of b ys)
  finds : (n : ℕ) → is_remaining b.block ys n ≡ true → FindsBelow b (points_of b xs) (points_of b ys) (time_of b order (At n Issue)) (time_of b order (At n Start)) n
  total : total_of b xs ≤ max own (total_of b ys)

pushed : (b : Problem) (xs : List ℕ) (m : ℕ) → points_of b (xs ++ m ∷ []) ≡ point_of b (points_of b xs) m ∷ points_of b xs
pushed b xs m = points_after-append b [] xs (m ∷ [])

remains-before : (block : List Instr) (ys : List ℕ) (m n : ℕ) → is_remaining block (ys ++ m ∷ []) n ≡ true → is_remaining block ys n ≡ true
remains-before block ys m n h =
    let (low, high, new) = remaining-parts block (ys ++ m ∷ []) n h in
    and_from (leb 1 n && leb n (length block)) (not (has n ys))
    (and_from (leb 1 n) (leb n (length block)) (le-leb 1 n low) (le-leb n (length block) high))
    (not_from_false (has n ys) (or_parts (eqb n m) (has n ys) (sym (has-push n m ys) ∙ new)).1)

module _ (b : Problem) (order : List ℕ) (legal : IsLegal b.block order) (own : ℕ) where
  module _ (xs ys : List ℕ) (m : ℕ) (more : List ℕ) (is : order ≡ ys ++ m ∷ more) (h : StaysAhead b order own xs ys) where
    abbrev q : List Point
    q = points_of b xs

    abbrev s : List Point
    s = points_of b ys

    ready : is_ready b.block ys m ≡ true
    ready = placed-ready b order legal ys more m is

    found : FindsBelow b q s (point_of b s m).issue (point_of b s m).start m
    found =
        let finds = h.finds m (and_parts (is_remaining b.block ys m) (needs_met b.block ys m m) ready).0 in
        rw (time_at-placed b order legal ys more m (λ (p : Point). p.issue) is, time_at-placed b order legal ys more m (λ (p : Point). p.start) is) at finds

    slot_le : slot_of q (row_at b m).parcels ≤ slot_of s (row_at b m).parcels
    slot_le = slot-le q s (row_at b m).parcels h.slot h.phase

    step : StaysAhead b order own (xs ++ m ∷ []) (ys ++ m ∷ [])
    step = record {
      begins = step-begins b.block xs m h.begins (is_ready-same b.block xs ys h.same_set m ∙ ready);
      same_set = same-push xs ys m h.same_set;
      slot = rw (pushed b xs m, pushed b ys m) (slot-push b q s m found slot_le);
      phase = rw (pushed b xs m, pushed b ys m) (phase-push b q s m h.phase);
      finds = λ n left.
          rw (pushed b xs m, pushed b ys m) (finds-push b q s m found slot_le (last-is_greatest b xs) (last-is_greatest b ys) (time_of b order (At n Issue)) (time_of b order (At n Start)) n (h.finds n (remains-before b.block ys m n left)));
      total = rw (pushed b xs m, pushed b ys m) (omega (arith, end-below b q s m found slot_le (last-is_greatest b xs) (last-is_greatest b ys), h.total));
    }

  run : (xs ys rest : List ℕ) → order ≡ ys ++ rest → StaysAhead b order own xs ys → StaysAhead b order own (xs ++ rest) (ys ++ rest)
  run xs ys [] is h = rw (append-nil xs, append-nil ys) h
  run xs ys (m ∷ rest) is h =
      let e : (ys ++ m ∷ []) ++ rest ≡ ys ++ m ∷ rest = append_assoc ys (m ∷ []) rest in
      let all = run (xs ++ m ∷ []) (ys ++ m ∷ []) rest (is ∙ sym e) (step xs ys m rest is h) in
      subst (λ v. StaysAhead b order own v (ys ++ m ∷ rest)) (append_assoc xs (m ∷ []) rest)
      (subst (λ v. StaysAhead b order own ((xs ++ m ∷ []) ++ rest) v) e all)

-- WHAT IT IS FOR

ahead : (b : Problem) (low : ℕ) (known : List Fact) (other prefix rest : List ℕ) → DominatesInUse b low known other prefix → IsLegal b.block (prefix ++ rest) → total_of b (prefix ++ rest) < low → AreSo b (prefix ++ rest) known → StaysAhead b (prefix ++ rest) (total_of b other) other prefix
ahead b low known other prefix rest h legal less so =
    record {
      begins = h.other_begins;
      same_set = h.same_set;
      slot = h.slot;
      phase = h.phase;
      finds = found;
      total = omega arith;
    }
  where
    found : (n : ℕ) → is_remaining b.block prefix n ≡ true → FindsBelow b (points_of b other) (points_of b prefix) (time_of b (prefix ++ rest) (At n Issue)) (time_of b (prefix ++ rest) (At n Start)) n
    found n left =
        let (issue, start, comes, finds) = h.finds n left in
        let issue2 = time_of b (prefix ++ rest) (At n Issue) in
        let start2 = time_of b (prefix ++ rest) (At n Start) in
        no_later-below b (points_of b other) (points_of b prefix) issue2 start2 n
        (finds-later b (points_of b other) (points_of b prefix) issue start issue2 start2 n (omega (arith, comes.issues (prefix ++ rest) legal less ((rest, refl), so))) (omega (arith, comes.starts (prefix ++ rest) legal less ((rest, refl), so))) finds)

total_below : (low before own total : ℕ) → (own < low) ⊎ (own ≤ before) → before ≤ total → total < low → max own total < low
total_below low before own total (inl less) le below = omega arith
total_below low before own total (inr no_later) le below = omega arith

pub no_worse-below : (b : Problem) (low : ℕ) (known : List Fact) (other prefix : List ℕ) → DominatesInUse b low known other prefix → IsNoWorseBelow b low known other prefix
no_worse-below b low known other prefix h rest legal less so =
    let (begins, completes) = legal-parts b.block prefix rest legal in
    let after = run b (prefix ++ rest) legal (total_of b other) other prefix rest refl (ahead b low known other prefix rest h legal less so) in
    let size : length (other ++ rest) ≡ length b.block = omega (arith, length-append other rest, length-append prefix rest, set-length b.block other prefix h.same_set h.begins h.other_begins, completes.1) in
    let stays : total_of b prefix ≤ total_of b (prefix ++ rest) = total-stays b (prefix ++ rest) legal prefix rest refl in
    (order-legal b.block (other ++ rest) (after.begins, size), omega (arith, after.total, total_below low (total_of b prefix) (total_of b other) (total_of b (prefix ++ rest)) h.total stays less))

-- AS IF IT CAME NEXT

pub next-comes : (b : Problem) (low : ℕ) (known : List Fact) (prefix : List ℕ) (n : ℕ) → is_remaining b.block prefix n ≡ true → ComesNoSooner b low known prefix n (soonest b prefix n Issue) (soonest b prefix n Start)
next-comes b low known prefix n left =
    record {
      issues = λ order legal less so. omega (arith, soonest-le b order legal prefix so.0.0 so.0.1 n Issue left);
      starts = λ order legal less so. omega (arith, soonest-le b order legal prefix so.0.0 so.0.1 n Start left);
    }

-- CLAMPED

pub clamped-finds : (b : Problem) (q s : List Point) (n : ℕ) → IsNoLater b (clamp_at (next s)) q s → FindsNoLater b q s (point_of b s n).issue (point_of b s n).start n
clamped-finds b q s n h =
    let t = point_of b s n in
    let issue : next s ≤ t.issue = next-le-issue b s n in
    let start : next s ≤ t.start = omega (arith, issue, issue-le-start b s n) in
    record {
      writers = λ w among. omega (arith, h.writers w.reg, issue);
      units = λ i lt. omega (arith, h.units (row_at b n).kind i lt, issue);
      operands = λ x among. omega (arith, h.writers x, start);
      memory = memory-clamped (row_at b n).memory q s (next s) t.start h.references h.stores start;
      readers = λ w among. omega (arith, h.readers w.reg, start, ((good-at b n).latencies w among).0);
    }

pub clamped-in_use : (b : Problem) (low : ℕ) (known : List Fact) (other prefix : List ℕ) → DominatesClamped b other prefix → DominatesInUse b low known other prefix
clamped-in_use b low known other prefix h =
    record {
      begins = h.begins;
      other_begins = h.other_begins;
      same_set = h.same_set;
      slot = h.no_later.slot;
      phase = h.no_later.phase;
      finds = λ n left. (soonest b prefix n Issue, soonest b prefix n Start, next-comes b low known prefix n left, clamped-finds b (points_of b other) (points_of b prefix) n h.no_later);
      total = inr (clamped-total b other prefix h);
    }
