-- Longest paths up to a moment: those from the moments of a number, by those of all that stands after it.
use Rattle.std.proofs.Common.{ℕ, ◌+◌, ◌≤◌, ◌≡◌, not, Bool, true, List, refl, sym, ap, arith, inl, inr, ◌∙◌, Option, Some, None}
use Rattle.std.proofs.lemmas.Bool.{or_left, or_right}
use Rattle.s66_isa.specs.{Reg, Write, has_reg, memory_pair, numbers}
use Rattle.s66_model.specs.{Problem, row_at}
use Rattle.s66_moments.specs.{Stage, Issue, Start, Done, Free, Moment, At, writes, fetches, has_stage, is_moment, only_if, latency_to, later_arc, IsNumber, same_moment, later, latest, span, is_back}
use Rattle.s66_moments.proofs.TableArcs.{None-none, moment-parts, moment-number}
use Rattle.s66_moments.proofs.Spans.{height-some, some-height}
use Rattle.s66_facts.specs.{Backward, Times, before_in, Ground, ground_arcs, IsAcyclic, uses, covers, no_times, add, when, times_at, latest_done, share_unit, latest_result, start_before, done_before}
use Rattle.s66_facts.specs.{before_one, by_loads, by_all, tail_free, tail_done, tail_results, tail_start, tail_issue, times_of, AreResults, AreTimes}
use Rattle.s66_facts.proofs.Latest.{later-assoc}
use Rattle.s66_facts.proofs.Edges.{later-cases, is-stage, step, later_along, own-edge, later-edge}
use Rattle.s66_facts.proofs.Walks.{Walk, IsHop, by-itself, by-others, results-go}
use Rattle.s66_facts.proofs.Covered.{IsNearBy, covers-first, covers-second, covers-unit-back, covers-memory-back, if-only}
use Rattle.s66_facts.proofs.Results.{part, same-results, via, via_results, by_stages, via-if, via-zero, alone, alone-zero, results-none, results-one, results-latency, all-same}

module _ (g : Ground) (ordered : IsAcyclic g) (f : Moment) (last : is_back f ≡ true) (times : List Times) (n : ℕ) (is_n : IsNumber g.problem n) (near : ℕ → Bool) (is_near : IsNearBy g.problem (λ m k. before_in g.marks k m) near n) where
  abbrev b : Problem
  b = g.problem

  abbrev before : ℕ → ℕ → Bool
  before = before_in g.marks

  abbrev S : Moment → Option ℕ
  S m = span b (ground_arcs g) m f

  abbrev T : ℕ → Times
  T m = times_at times m

  abbrev all : List ℕ
  all = numbers b.block

  module _ (known : (m : ℕ) → IsNumber b m → before n m ≡ true → AreTimes b S m (T m)) where
    abbrev walk : Walk
    walk = record { d = Backward; g = g; ordered = ordered; e = f; begins = last; times = times; n = n; is_n = is_n; near = near; is_near = is_near; known = known }

    module _ (k : ℕ) (is_k : IsNumber b k) (k_after : before n k ≡ true) (j : ℕ) (is_j : IsNumber b j) (j_near : near j ≡ true) (between : before j k ≡ true) (covered : covers b k j n ≡ true) where
      j_after : before n j ≡ true
      j_after = is_near.within j is_j j_near

      -- it is no longer than the longest
      hop : (s t : Stage) (v u w : ℕ) → S (At n s) ≡ Some w → has_stage (row_at b n) s ≡ true → has_stage (row_at b j) t ≡ true → later_arc b (row_at b n) (row_at b j) s t ≡ Some v → S (At j t) ≡ Some u → w ≤ v + u → IsHop walk s w
      hop s t v u w is is_s is_t arc_is at le =
          let same : u + v ≡ w = omega (arith, le, step g ordered Backward f (At j t) (At n s) u v at (later-edge g ordered Backward j n is_j is_n j_after t s v is_t is_s arc_is), height-some (S (At n s)) w is) in
          inl (j, t, u, v, j_near, is-stage g ordered j t is_j is_t, j_after, arc_is, at, same)

      -- from the one between, and from its issue by what it writes, and by its free
      from-j : (s t : Stage) (v u : ℕ) → has_stage (row_at b j) s ≡ true → has_stage (row_at b k) t ≡ true → later_arc b (row_at b j) (row_at b k) s t ≡ Some v → S (At k t) ≡ Some u → (x : ℕ) × (S (At j s) ≡ Some x) × (u + v ≤ x)
      from-j s t v u is_s is_t arc_is at =
          some-height (S (At j s)) (u + v) (step g ordered Backward f (At k t) (At j s) u v at (later-edge g ordered Backward k j is_k is_j between t s v is_t is_s arc_is))

      from-start : (m u : ℕ) → IsNumber b m → S (At m Start) ≡ Some u → (x : ℕ) × (S (At m Issue) ≡ Some x) × (u ≤ x)
      from-start m u is at = (let (x, there, le) = some-height (S (At m Issue)) (u + 0) (step g ordered Backward f (At m Start) (At m Issue) u 0 at (own-edge g ordered Backward m is Start Issue 0 refl refl refl)) in (x, there, omega (arith, le)))

      by-result : (m : ℕ) (y : Reg) (u : ℕ) → IsNumber b m → writes (row_at b m) y ≡ true → S (At m (Done y)) ≡ Some u → (x : ℕ) × (S (At m Issue) ≡ Some x) × (u ≤ x)
      by-result m y u is there at =
          let (z, is_z, more) = some-height (S (At m Start)) (u + latency_to (row_at b m) y) (step g ordered Backward f (At m (Done y)) (At m Start) u (latency_to (row_at b m) y) at (own-edge g ordered Backward m is (Done y) Start (latency_to (row_at b m) y) there refl refl)) in
          let (x, is_x, le) = from-start m z is is_z in
          (x, is_x, omega (arith, le, more))

      by-free : (u : ℕ) → S (At j Free) ≡ Some u → (x : ℕ) × (S (At j Issue) ≡ Some x) × (u ≤ x)
      by-free u at =
          let (z, is_z, more) = some-height (S (At j Start)) (u + ((row_at b j).hold + 1)) (step g ordered Backward f (At j Free) (At j Start) u ((row_at b j).hold + 1) at (own-edge g ordered Backward j is_j Free Start ((row_at b j).hold + 1) refl refl refl)) in
          let (x, is_x, le) = from-start j z is_j is_z in
          (x, is_x, omega (arith, le, more))

      -- each arc, if the second number is covered
      abbrev IsHopped : Stage → Stage → ℕ → Type 0
      IsHopped s t v = (u w : ℕ) → S (At n s) ≡ Some w → has_stage (row_at b n) s ≡ true → has_stage (row_at b k) t ≡ true → S (At k t) ≡ Some u → v + u ≡ w → IsHop walk s w

      to-result : (y : Reg) (t : Stage) → uses (row_at b k) y ≡ true → later_arc b (row_at b j) (row_at b k) (Done y) t ≡ Some 0 → IsHopped (Done y) t 0
      to-result y t used arc_is u w is is_s is_t at sum =
          let there : writes (row_at b j) y ≡ true = covers-second b k j n y covered is_s used in
          let (z, is_z, more) = from-j (Done y) t 0 u there is_t arc_is at in
          let (x, is_x, le) = by-result j y z is_j there is_z in
          hop (Done y) Issue 0 x w is is_s refl (if-only (writes (row_at b j) y) 0 there) is_x (omega (arith, le, more, sum))

      covered-hop : (s t : Stage) (v : ℕ) → later_arc b (row_at b n) (row_at b k) s t ≡ Some v → IsHopped s t v
      covered-hop =
          later-cases b n k IsHopped
          (λ u w is is_s is_t at sum.
          let (x, is_x, le) = from-j Issue Issue (row_at b j).parcels u refl refl refl at in
          hop Issue Issue (row_at b n).parcels x w is refl refl refl is_x (omega (arith, le, sum)))
          (λ y used. to-result y Issue (or_left (writes (row_at b k) y) (has_reg y (row_at b k).reads) used) (if-only (writes (row_at b k) y) 0 used))
          (λ shares u w is is_s is_t at sum.
          let (first, second) = covers-unit-back b k j n covered shares in
          let (z, is_z, more) = from-j Free Issue 0 u refl refl (if-only (share_unit b j k) 0 second) at in
          let (x, is_x, le) = by-free z is_z in
          hop Free Issue 0 x w is refl refl (if-only (share_unit b n j) 0 first) is_x (omega (arith, le, more, sum)))
          (λ y used. to-result y Start (or_right (writes (row_at b k) y) (has_reg y (row_at b k).reads) used) (if-only (has_reg y (row_at b k).reads) 0 used))
          (λ pair u w is is_s is_t at sum.
          let (first, second) = covers-memory-back b k j n covered pair in
          let (x, is_x, le) = from-j Start Start 1 u refl refl (if-only (memory_pair (row_at b j).memory (row_at b k).memory) 1 second) at in
          hop Start Start 1 x w is refl refl (if-only (memory_pair (row_at b n).memory (row_at b j).memory) 1 first) is_x (omega (arith, le, sum)))
          (λ y used u w is is_s is_t at sum.
          let there : writes (row_at b j) y ≡ true = covers-first b k j n y covered is_t (or_right (writes (row_at b n) y) (has_reg y (row_at b n).reads) used) in
          let (a, is_a, most) = by-result k y u is_k is_t at in
          let (x, is_x, le) = from-j (Done y) Issue 0 a there refl (if-only (writes (row_at b k) y) 0 is_t) is_a in
          hop Start (Done y) 1 x w is refl there (if-only (has_reg y (row_at b n).reads) 1 used) is_x (omega (arith, le, most, sum)))

    near-hop : (k : ℕ) (s t : Stage) (u v w : ℕ) → S (At n t) ≡ Some w → is_moment b (At k s) ≡ true → is_moment b (At n t) ≡ true → before n k ≡ true → later_arc b (row_at b n) (row_at b k) t s ≡ Some v → S (At k s) ≡ Some u → u + v ≡ w → IsHop walk t w
    near-hop k s t u v w is is_s is_t k_after arc_is at sum =
        let is_k : IsNumber b k = moment-number b k s is_s in
        elim (is_near.enough k is_k k_after) [
          | inl here ↦ inl (k, s, u, v, here, is_s, k_after, arc_is, at, sum)
          | inr (j, is_j, j_near, between, covered) ↦
              covered-hop k is_k k_after j is_j j_near between covered t s v arc_is u w is (moment-parts b n t is_t).1 (moment-parts b k s is_s).1 at (omega (arith, sum))
        ]

    -- BY ARCS, of its own and to the others

    abbrev its_writes : List Write
    its_writes = (row_at b n).writes

    abbrev before_these : Times
    before_these = by_all Backward b near times n

    -- from a stage to m
    abbrev to_one : Stage → ℕ → Option ℕ
    to_one s m = by_stages (λ t. later_along Backward b m n t s) (T m) (row_at b m).writes

    -- no arc leads to a result of it
    alone-of : (m : ℕ) (o : Option ℕ) → later o (via_results (λ x. None) (T m) (row_at b m).writes) ≡ o
    alone-of m o = alone o (via_results (λ x. None) (T m) (row_at b m).writes) (results-none (T m) (row_at b m).writes)

    free-one : (m : ℕ) → when (share_unit b n m) (T m).issue ≡ to_one Free m
    free-one m = sym (alone-of m (via (T m).issue (only_if (share_unit b n m) 0)) ∙ via-zero (share_unit b n m) (T m).issue)

    done-one : (x : Reg) (m : ℕ) → done_before b m (T m) x ≡ to_one (Done x) m
    done-one x m =
        let written : Option ℕ = via (T m).issue (only_if (writes (row_at b m) x) 0) in
        let read : Option ℕ = via (T m).start (only_if (has_reg x (row_at b m).reads) 0) in
        sym (
        ap (later written) (alone-of m read ∙ via-zero (has_reg x (row_at b m).reads) (T m).start)
        ∙ ap (λ o. later o (when (has_reg x (row_at b m).reads) (T m).start)) (via-zero (writes (row_at b m) x) (T m).issue)
        )

    start-one : (m : ℕ) → start_before b n m (T m) ≡ to_one Start m
    start-one m =
        let pair : Bool = memory_pair (row_at b n).memory (row_at b m).memory in
        let reads : Reg → Bool = λ x. has_reg x (row_at b n).reads in
        ap (λ o. later o (add (latest_done reads (T m) (row_at b m).writes) 1)) (sym (via-if pair (T m).start 1))
        ∙ ap (later (via (T m).start (only_if pair 1))) (sym (results-one reads (T m) (row_at b m).writes))

    issue-one : (m : ℕ) → add (T m).issue (row_at b n).parcels ≡ to_one Issue m
    issue-one m = sym (alone-of m (add (T m).issue (row_at b n).parcels))

    -- ITS STAGES, one before the other

    abbrev free : Option ℕ
    free = tail_free f before_these

    free-is : free ≡ S (At n Free)
    free-is =
        by-others walk near-hop Free refl no_times (record { issue = λ v is. absurd (None-none v is); start = λ v is. absurd (None-none v is); free = λ v is. absurd (None-none v is); results = λ x v is. absurd (None-none v is) }) refl refl None before_these.free
        (sym (results-none no_times its_writes)) (part near (before_one b times n) (λ t. t.free) refl (λ s t. refl) all ∙ all-same near (λ m. when (share_unit b n m) (T m).issue) (to_one Free) all free-one)

    abbrev results : Times
    results = tail_results b f n before_these free

    abbrev waiting : Reg → Option ℕ
    waiting x = latest (λ m. when (near m) (done_before b m (T m) x)) all

    done-is : (x : Reg) → writes (row_at b n) x ≡ true → tail_done b f n free (waiting x) x ≡ S (At n (Done x))
    done-is x there =
        let kept : Bool = not (fetches (row_at b n) x) in
        by-others walk near-hop (Done x) there results (record { issue = λ v is. absurd (None-none v is); start = λ v is. absurd (None-none v is); free = λ v is. free-is; results = λ x v is. absurd (None-none v is) }) refl refl (when kept (add free 1)) (waiting x)
        (sym (alone (via free (only_if kept 1)) (via_results (λ y. None) results its_writes) (results-none results its_writes) ∙ via-if kept free 1)) (all-same near (λ m. done_before b m (T m) x) (to_one (Done x)) all (done-one x))

    results-are : AreResults (λ x. S (At n (Done x))) results its_writes
    results-are =
        results-go (λ x. S (At n (Done x))) near all (λ m. done_before b m (T m)) (tail_done b f n free) its_writes before_these.first before_these.second results done-is
        (part near (before_one b times n) (λ t. t.first) refl (λ s t. refl) all) (part near (before_one b times n) (λ t. t.second) refl (λ s t. refl) all) refl refl

    abbrev start : Option ℕ
    start = tail_start b f n before_these results (by_loads Backward g.loads times f (At n Start))

    start-is : start ≡ S (At n Start)
    start-is =
        let itself : Option ℕ = only_if (same_moment f (At n Start)) 0 in
        let by_unit : Option ℕ = add free ((row_at b n).hold + 1) in
        let made : Option ℕ = latest_result (row_at b n) results its_writes in
        let rest : Option ℕ = later before_these.start (by_loads Backward g.loads times f (At n Start)) in
        later-assoc itself by_unit (later made rest)
        ∙ (ap (later itself) (sym (later-assoc by_unit made rest))
        ∙ by-itself walk near-hop Start refl results (record { issue = λ v is. absurd (None-none v is); start = λ v is. absurd (None-none v is); free = λ v is. free-is; results = λ x v is. results-are }) refl (later by_unit made) before_these.start
        (ap (later by_unit) (sym (results-latency (row_at b n) results its_writes))) (part near (before_one b times n) (λ t. t.start) refl (λ s t. refl) all ∙ all-same near (λ m. start_before b n m (T m)) (to_one Start) all start-one))

    abbrev with_start : Times
    with_start = record { issue = None; start = start; free = None; first = None; second = None }

    issue-is : tail_issue f n before_these start (by_loads Backward g.loads times f (At n Issue)) ≡ S (At n Issue)
    issue-is =
        later-assoc (only_if (same_moment f (At n Issue)) 0) start (later before_these.issue (by_loads Backward g.loads times f (At n Issue)))
        ∙ by-itself walk near-hop Issue refl with_start (record { issue = λ v is. absurd (None-none v is); start = λ v is. start-is; free = λ v is. absurd (None-none v is); results = λ x v is. absurd (None-none v is) }) refl start before_these.issue
        (sym (alone-zero start (via_results (λ x. None) with_start its_writes) (results-none with_start its_writes))) (part near (before_one b times n) (λ t. t.issue) refl (λ s t. refl) all ∙ all-same near (λ m. add (T m).issue (row_at b n).parcels) (to_one Issue) all issue-one)

    pub tails-are : AreTimes b S n (times_of Backward g near f times n)
    tails-are = record { issue = issue-is; start = start-is; free = free-is; results = same-results (λ x. S (At n (Done x))) (times_of Backward g near f times n) results its_writes refl refl results-are }
