-- Dominance lasts when both beginnings go on with the same numbers, so the dominating one is no worse.
use Rattle.std.proofs.Common.{ℕ, ◌+◌, ◌≤◌, ◌≡◌, cond, ◌&&◌, true, max, min, List, [], ◌∷◌, ◌++◌, length, refl, arith, inl, inr, ltb, ◌∙◌, append_assoc, eq-eqb, lt-ltb, append-nil}
use Rattle.std.proofs.lemmas.Bool.{cond-true}
use Rattle.s66_isa.specs.{Instr, Kind, Reg, greatest, tally, same_reg, same_kind, kind_number}
use Rattle.s66_isa.proofs.Lists.{cases_le, ones}
use Rattle.s66_isa.proofs.SameRegister.{same_reg-self}
use Rattle.s66_model.specs.{Problem, ResultAt, Point, copies, next, total, total_of, done_of, busy_at, point_of, points_of, is_ready, GoesOn, IsBeginning, free_times, Clamp, IsNoLater, IsSameSet}
use Rattle.s66_model.specs.{DominatesBy, no_clamp, Dominates, clamp_at, DominatesClamped, IsNoWorse}
use Rattle.s66_model.proofs.SameSet.{is_ready-same, sum_remaining-same}
use Rattle.s66_model.proofs.LegalOrders.{has-push, sum_remaining-run, order-legal}
use Rattle.s66_model.proofs.Remaining.{step-begins, legal-parts}
use Rattle.s66_model.proofs.Issue.{some_copies, done_of-le-total, none_busy}
use Rattle.s66_model.proofs.PointTimes.{points_after-append, next-le-issue}
use Rattle.s66_model.proofs.LoadBound.{next-le-total}
use Rattle.s66_model.proofs.ChainBound.{last-is_greatest}
use Rattle.s66_model.proofs.FreeTimes.{busy-later, free_times-falling, places-busy, busy-places}
use Rattle.s66_model.proofs.PushedBoth.{Below, push-below}

-- UNITS BY PLACES AND COUNTED

pub no_later-below : (b : Problem) (c : Clamp) (q s : List Point) → IsNoLater b c q s → Below b c q s
no_later-below b c q s h =
    record {
      slot = h.slot;
      phase = h.phase;
      writers = h.writers;
      readers = h.readers;
      busy = λ kind t k. omega (arith, busy-later kind t s, busy-later kind t q, places-busy (copies b kind) c.others t (free_times kind s) (free_times kind q) (free_times-falling kind s) (free_times-falling kind q) (h.units kind) k);
      references = h.references;
      stores = h.stores;
    }

counted : (b : Problem) (c : Clamp) (q s : List Point) → Below b c q s → (kind : Kind) (t : ℕ) → c.others ≤ t → min (copies b kind) (tally (λ w. ltb t w) (free_times kind q)) ≤ min (copies b kind) (tally (λ w. ltb t w) (free_times kind s))
counted b c q s h kind t k = omega (arith, busy-later kind t s, busy-later kind t q, h.busy kind t k)

pub below-no_later : (b : Problem) (c : Clamp) (q s : List Point) → Below b c q s → IsNoLater b c q s
below-no_later b c q s h =
    record {
      slot = h.slot;
      phase = h.phase;
      writers = h.writers;
      readers = h.readers;
      units = λ kind i lt. busy-places (copies b kind) c.others (free_times kind s) (free_times kind q) (free_times-falling kind s) (free_times-falling kind q) (counted b c q s h kind) i lt;
      references = h.references;
      stores = h.stores;
    }

-- THE TOTAL FOLLOWS

results_most : (t : ℕ) (ds : List ResultAt) → ((r : Reg) → greatest (λ (d : ResultAt). cond (same_reg d.reg r) d.time 0) ds ≤ t) → greatest (λ (d : ResultAt). d.time) ds ≤ t
results_most t [] h = omega arith
results_most t (d ∷ ds) h =
    omega (arith, h d.reg, cond-true {A = ℕ} (same_reg d.reg d.reg) d.time 0 (same_reg-self d.reg), results_most t ds (λ r. omega (arith, h r)))

busy_self : (t : ℕ) (p : Point) (more : ℕ) → cond (same_kind p.row.kind p.row.kind && ltb t p.free) 1 0 + more ≡ 0 → p.free ≤ t
busy_self t p more h =
    elim (cases_le p.free t) [
      | inl le ↦ le
      | inr lt ↦ (let e = rw (eq-eqb (kind_number p.row.kind) (kind_number p.row.kind) refl, lt-ltb t p.free lt) at h in absurd (omega (arith, e)))
    ]

-- by then everything is done and free
total_most : (t : ℕ) (q : List Point) → ((r : Reg) → done_of q r ≤ t) → ((kind : Kind) → tally (busy_at kind t) q ≡ 0) → total q ≤ t
total_most t [] h k = omega arith
total_most t (p ∷ q) h k =
    omega (arith, results_most t p.results (λ r. omega (arith, h r)), busy_self t p (tally (busy_at p.row.kind t) q) (k p.row.kind), total_most t q (λ r. omega (arith, h r)) (λ kind. omega (arith, k kind)))

pub total-within : (b : Problem) (c : Clamp) (q s : List Point) → IsNoLater b c q s → total q ≤ max (total s) c.others
total-within b c q s h =
    let t = max (total s) c.others in
    let below : Below b c q s = no_later-below b c q s h in
    total_most t q
    (λ r. omega (arith, h.writers r, done_of-le-total s r))
    (λ kind. omega (arith, below.busy kind t (omega arith), none_busy kind t s (omega arith), some_copies b.profile kind))

-- ONE SET

pub same-push : (other prefix : List ℕ) (n : ℕ) → IsSameSet other prefix → IsSameSet (other ++ n ∷ []) (prefix ++ n ∷ [])
same-push other prefix n h m = rw (has-push m n other, has-push m n prefix, h m) refl

pub set-length : (block : List Instr) (other prefix : List ℕ) → IsSameSet other prefix → IsBeginning block prefix → IsBeginning block other → length other ≡ length prefix
set-length block other prefix same begins other_begins =
    omega (arith, sum_remaining-same block other prefix same (λ _. 1), sum_remaining-run block (λ _. 1) [] prefix begins, sum_remaining-run block (λ _. 1) [] other other_begins, ones prefix, ones other)

pub length-same : (b : Problem) (c : Clamp) (other prefix : List ℕ) → DominatesBy c b other prefix → length other ≡ length prefix
length-same b c other prefix h = set-length b.block other prefix h.same_set h.begins h.other_begins

-- THE SAME NUMBERS ON BOTH, for clamps that rise with the next slot and aren't past it

pub record IsClamping (clamp : ℕ → Clamp) : Type 0 where
  pub others : (now : ℕ) → (clamp now).others ≤ now
  pub readers : (now : ℕ) → (clamp now).readers ≤ now + 1
  pub others_rise : (now later : ℕ) → now ≤ later → (clamp now).others ≤ (clamp later).others
  pub readers_rise : (now later : ℕ) → now ≤ later → (clamp now).readers ≤ (clamp later).readers

nothing_clamped : IsClamping (λ _. no_clamp)
nothing_clamped = record {
  others = λ now. omega arith;
  readers = λ now. omega arith;
  others_rise = λ now later h. omega arith;
  readers_rise = λ now later h. omega arith;
}

past_clamped : IsClamping clamp_at
past_clamped = record {
  others = λ now. omega arith;
  readers = λ now. omega arith;
  others_rise = λ now later h. h;
  readers_rise = λ now later h. omega arith;
}

-- what is no later than a clamp is no later than a later one
below-later : (b : Problem) (c d : Clamp) (q s : List Point) → c.others ≤ d.others → c.readers ≤ d.readers → Below b c q s → Below b d q s
below-later b c d q s others readers h =
    record {
      slot = h.slot;
      phase = h.phase;
      writers = λ r. omega (arith, h.writers r, others);
      readers = λ r. omega (arith, h.readers r, readers);
      busy = λ kind t k. h.busy kind t (omega (arith, others, k));
      references = omega (arith, h.references, others);
      stores = omega (arith, h.stores, others);
    }

module _ (b : Problem) (clamp : ℕ → Clamp) (is : IsClamping clamp) where
  abbrev Ahead : List ℕ → List ℕ → Type 0
  Ahead other prefix = DominatesBy (clamp (next (points_of b prefix))) b other prefix

  words-push : (other prefix : List ℕ) (n : ℕ) → Ahead other prefix → IsNoLater b (clamp (next (point_of b (points_of b prefix) n ∷ points_of b prefix))) (point_of b (points_of b other) n ∷ points_of b other) (point_of b (points_of b prefix) n ∷ points_of b prefix)
  words-push other prefix n h =
      let s = points_of b prefix in
      let q = points_of b other in
      let now : next s ≤ next (point_of b s n ∷ s) = omega (arith, next-le-issue b s n) in
      let pushed = push-below b (clamp (next s)) q s n (no_later-below b (clamp (next s)) q s h.no_later) (is.others (next s)) (is.readers (next s)) (last-is_greatest b other) (last-is_greatest b prefix) in
      below-no_later b (clamp (next (point_of b s n ∷ s))) (point_of b q n ∷ q) (point_of b s n ∷ s)
      (below-later b (clamp (next s)) (clamp (next (point_of b s n ∷ s))) (point_of b q n ∷ q) (point_of b s n ∷ s) (is.others_rise (next s) (next (point_of b s n ∷ s)) now) (is.readers_rise (next s) (next (point_of b s n ∷ s)) now) pushed)

  pub push : (other prefix : List ℕ) (n : ℕ) → Ahead other prefix → is_ready b.block prefix n ≡ true → Ahead (other ++ n ∷ []) (prefix ++ n ∷ [])
  push other prefix n h ready =
      let ready_too : is_ready b.block other n ≡ true = is_ready-same b.block other prefix h.same_set n ∙ ready in
      record {
        begins = step-begins b.block prefix n h.begins ready;
        other_begins = step-begins b.block other n h.other_begins ready_too;
        same_set = same-push other prefix n h.same_set;
        no_later = rw (points_after-append b [] prefix (n ∷ []), points_after-append b [] other (n ∷ [])) (words-push other prefix n h);
      }

  run : (other prefix rest : List ℕ) → Ahead other prefix → GoesOn b.block prefix rest → Ahead (other ++ rest) (prefix ++ rest)
  run other prefix [] h goes = rw (append-nil other, append-nil prefix) h
  run other prefix (n ∷ rest) h goes =
      let after = run (other ++ n ∷ []) (prefix ++ n ∷ []) rest (push other prefix n h goes.0) goes.1 in
      rw (append_assoc other (n ∷ []) rest, append_assoc prefix (n ∷ []) rest) at after

  pub total-le : (other prefix : List ℕ) → Ahead other prefix → total_of b other ≤ total_of b prefix
  total-le other prefix h =
      let s = points_of b prefix in
      omega (arith, total-within b (clamp (next s)) (points_of b other) s h.no_later, is.others (next s), next-le-total b [] prefix (omega arith))

  pub no-worse : (other prefix : List ℕ) → Ahead other prefix → IsNoWorse b other prefix
  no-worse other prefix h rest legal =
      let (begins, completes) = legal-parts b.block prefix rest legal in
      let after : Ahead (other ++ rest) (prefix ++ rest) = run other prefix rest h completes.0 in
      let size : length (other ++ rest) ≡ length b.block = length-same b (clamp (next (points_of b (prefix ++ rest)))) (other ++ rest) (prefix ++ rest) after ∙ completes.1 in
      (order-legal b.block (other ++ rest) (after.other_begins, size), total-le (other ++ rest) (prefix ++ rest) after)

-- AS WRITTEN

pub written-push : (b : Problem) (other prefix : List ℕ) (n : ℕ) → Dominates b other prefix → is_ready b.block prefix n ≡ true → Dominates b (other ++ n ∷ []) (prefix ++ n ∷ [])
written-push b other prefix n h ready =
    let after = push b (λ _. no_clamp) nothing_clamped other prefix n h.0 ready in
    (after, total-le b (λ _. no_clamp) nothing_clamped (other ++ n ∷ []) (prefix ++ n ∷ []) after)

pub written-no-worse : (b : Problem) (other prefix : List ℕ) → Dominates b other prefix → IsNoWorse b other prefix
written-no-worse b other prefix h = no-worse b (λ _. no_clamp) nothing_clamped other prefix h.0

-- CLAMPED

pub clamped-push : (b : Problem) (other prefix : List ℕ) (n : ℕ) → DominatesClamped b other prefix → is_ready b.block prefix n ≡ true → DominatesClamped b (other ++ n ∷ []) (prefix ++ n ∷ [])
clamped-push b = push b clamp_at past_clamped

pub clamped-total : (b : Problem) (other prefix : List ℕ) → DominatesClamped b other prefix → total_of b other ≤ total_of b prefix
clamped-total b = total-le b clamp_at past_clamped

pub clamped-no-worse : (b : Problem) (other prefix : List ℕ) → DominatesClamped b other prefix → IsNoWorse b other prefix
clamped-no-worse b = no-worse b clamp_at past_clamped

-- TRANSITIVE

no_later-transitive : (b : Problem) (u q s : List Point) → IsNoLater b (clamp_at (next s)) q s → IsNoLater b (clamp_at (next q)) u q → IsNoLater b (clamp_at (next s)) u s
no_later-transitive b u q s h k =
    record {
      slot = omega (arith, h.slot, k.slot);
      phase = k.phase ∙ h.phase;
      writers = λ r. omega (arith, h.writers r, k.writers r, h.slot);
      readers = λ r. omega (arith, h.readers r, k.readers r, h.slot);
      units = λ kind i lt. omega (arith, h.units kind i lt, k.units kind i lt, h.slot);
      references = omega (arith, h.references, k.references, h.slot);
      stores = omega (arith, h.stores, k.stores, h.slot);
    }

pub clamped-transitive : (b : Problem) (third other prefix : List ℕ) → DominatesClamped b third other → DominatesClamped b other prefix → DominatesClamped b third prefix
clamped-transitive b third other prefix k h =
    record {
      begins = h.begins;
      other_begins = k.other_begins;
      same_set = λ n. k.same_set n ∙ h.same_set n;
      no_later = no_later-transitive b (points_of b third) (points_of b other) (points_of b prefix) h.no_later k.no_later;
    }

-- what is no later at all is no later than a clamp either
pub written-clamped : (b : Problem) (other prefix : List ℕ) → Dominates b other prefix → DominatesClamped b other prefix
written-clamped b other prefix h =
    let words : IsNoLater b no_clamp (points_of b other) (points_of b prefix) = h.0.no_later in
    record {
      begins = h.0.begins;
      other_begins = h.0.other_begins;
      same_set = h.0.same_set;
      no_later = record {
        slot = words.slot;
        phase = words.phase;
        writers = λ r. omega (arith, words.writers r);
        readers = λ r. omega (arith, words.readers r);
        units = λ kind i lt. omega (arith, words.units kind i lt);
        references = omega (arith, words.references);
        stores = omega (arith, words.stores);
      };
    }
