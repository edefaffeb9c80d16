-- Longest paths from a moment on: those to the moments of a number, by those of all that stands before it.
use Rattle.std.proofs.Common.{ℕ, ◌+◌, ◌≤◌, ◌≡◌, not, Bool, true, List, refl, sym, ap, arith, inl, inr, ◌∙◌, Option, Some, None}
use Rattle.std.proofs.lemmas.Bool.{or_left, or_right}
use Rattle.s66_isa.specs.{Reg, Write, has_reg, memory_pair, numbers}
use Rattle.s66_model.specs.{Problem, row_at}
use Rattle.s66_moments.specs.{Stage, Issue, Start, Done, Free, Moment, Origin, At, writes, fetches, has_stage, is_moment, only_if, latency_to, later_arc, arc, IsNumber, Network, same_moment, later}
use Rattle.s66_moments.specs.{latest, span, is_front}
use Rattle.s66_moments.proofs.TableArcs.{None-none, moment-parts, moment-number}
use Rattle.s66_moments.proofs.Spans.{height-some, some-height}
use Rattle.s66_facts.specs.{Forward, Times, before_in, Ground, ground_arcs, IsAcyclic, uses, covers, no_times, add, when, times_at, latest_done, share_unit, issue_after, start_after, done_after}
use Rattle.s66_facts.specs.{after_one, by_loads, by_all, at_once, head_issue, head_start, head_done, head_results, head_free, with_free, times_of, AreResults, AreTimes}
use Rattle.s66_facts.proofs.Latest.{later-assoc}
use Rattle.s66_facts.proofs.Edges.{HasArc, later-cases, is-stage, step, later_along, own-edge, later-edge}
use Rattle.s66_facts.proofs.Walks.{Walk, IsHop, by-parts, by-others, results-go}
use Rattle.s66_facts.proofs.Covered.{IsNearBy, covers-first, covers-second, covers-unit, covers-memory, if-only}
use Rattle.s66_facts.proofs.Results.{part, same-results, via, via_results, by_stages, via-if, via-zero, alone, alone-zero, results-none, results-zero, results-one, all-same, none-gathered}

module _ (g : Ground) (ordered : IsAcyclic g) (e : Moment) (front : is_front e ≡ true) (times : List Times) (n : ℕ) (is_n : IsNumber g.problem n) (near : ℕ → Bool) (is_near : IsNearBy g.problem (before_in g.marks) near n) where
  abbrev b : Problem
  b = g.problem

  abbrev before : ℕ → ℕ → Bool
  before = before_in g.marks

  abbrev arcs : Network
  arcs = ground_arcs g

  abbrev S : Moment → Option ℕ
  S m = span b arcs e m

  abbrev T : ℕ → Times
  T m = times_at times m

  abbrev all : List ℕ
  all = numbers b.block

  module _ (known : (m : ℕ) → IsNumber b m → before m n ≡ true → AreTimes b S m (T m)) where
    abbrev walk : Walk
    walk = record { d = Forward; g = g; ordered = ordered; e = e; begins = front; times = times; n = n; is_n = is_n; near = near; is_near = is_near; known = known }

    abbrev origin : Option ℕ
    origin = only_if (same_moment e Origin) 0

    -- it is no longer than the longest
    no-longer : (m : Moment) (t : Stage) (u v w : ℕ) → S (At n t) ≡ Some w → S m ≡ Some u → HasArc arcs m v (At n t) → w ≤ u + v → u + v ≡ w
    no-longer m t u v w is at arc le = omega (arith, le, step g ordered Forward e m (At n t) u v at arc, height-some (S (At n t)) w is)

    module _ (k : ℕ) (is_k : IsNumber b k) (k_before : before k n ≡ true) (j : ℕ) (is_j : IsNumber b j) (j_near : near j ≡ true) (between : before k j ≡ true) (covered : covers b k j n ≡ true) where
      j_before : before j n ≡ true
      j_before = is_near.within j is_j j_near

      hop : (s t : Stage) (u v w : ℕ) → S (At n t) ≡ Some w → has_stage (row_at b j) s ≡ true → has_stage (row_at b n) t ≡ true → later_arc b (row_at b j) (row_at b n) s t ≡ Some v → S (At j s) ≡ Some u → w ≤ u + v → IsHop walk t w
      hop s t u v w is is_s is_t arc_is at le =
          inl (j, s, u, v, j_near, is-stage g ordered j s is_j is_s, j_before, arc_is, at, no-longer (At j s) t u v w is at (later-edge g ordered Forward j n is_j is_n j_before s t v is_s is_t arc_is) le)

      -- to the one between, and from its issue to what it writes, and to its free
      to-j : (s t : Stage) (u v : ℕ) → has_stage (row_at b k) s ≡ true → has_stage (row_at b j) t ≡ true → later_arc b (row_at b k) (row_at b j) s t ≡ Some v → S (At k s) ≡ Some u → (x : ℕ) × (S (At j t) ≡ Some x) × (u + v ≤ x)
      to-j s t u v is_s is_t arc_is at =
          some-height (S (At j t)) (u + v) (step g ordered Forward e (At k s) (At j t) u v at (later-edge g ordered Forward k j is_k is_j between s t v is_s is_t arc_is))

      start-of : (m u : ℕ) → IsNumber b m → S (At m Issue) ≡ Some u → (x : ℕ) × (S (At m Start) ≡ Some x) × (u ≤ x)
      start-of m u is at = (let (x, there, le) = some-height (S (At m Start)) (u + 0) (step g ordered Forward e (At m Issue) (At m Start) u 0 at (own-edge g ordered Forward m is Issue Start 0 refl refl refl)) in (x, there, omega (arith, le)))

      result-of : (x : Reg) (u : ℕ) → writes (row_at b j) x ≡ true → S (At j Issue) ≡ Some u → (y : ℕ) × (S (At j (Done x)) ≡ Some y) × (u ≤ y)
      result-of x u there at =
          let (s, is_s, le) = start-of j u is_j at in
          let (y, is_y, more) = some-height (S (At j (Done x))) (s + latency_to (row_at b j) x) (step g ordered Forward e (At j Start) (At j (Done x)) s (latency_to (row_at b j) x) is_s (own-edge g ordered Forward j is_j Start (Done x) (latency_to (row_at b j) x) refl there refl)) in
          (y, is_y, omega (arith, le, more))

      free-of : (u : ℕ) → S (At j Issue) ≡ Some u → (y : ℕ) × (S (At j Free) ≡ Some y) × (u ≤ y)
      free-of u at =
          let (s, is_s, le) = start-of j u is_j at in
          let (y, is_y, more) = some-height (S (At j Free)) (s + ((row_at b j).hold + 1)) (step g ordered Forward e (At j Start) (At j Free) s ((row_at b j).hold + 1) is_s (own-edge g ordered Forward j is_j Start Free ((row_at b j).hold + 1) refl refl refl)) in
          (y, is_y, omega (arith, le, more))

      -- each arc, if the first number is covered
      abbrev IsHopped : Stage → Stage → ℕ → Type 0
      IsHopped s t v = (u w : ℕ) → S (At n t) ≡ Some w → has_stage (row_at b k) s ≡ true → has_stage (row_at b n) t ≡ true → S (At k s) ≡ Some u → u + v ≡ w → IsHop walk t w

      by-result : (y : Reg) (t : Stage) → uses (row_at b n) y ≡ true → later_arc b (row_at b j) (row_at b n) (Done y) t ≡ Some 0 → IsHopped (Done y) t 0
      by-result y t used arc_is u w is is_s is_t at sum =
          let there : writes (row_at b j) y ≡ true = covers-first b k j n y covered is_s used in
          let (x, is_x, le) = to-j (Done y) Issue u 0 is_s refl (if-only (writes (row_at b j) y) 0 there) at in
          let (z, is_z, more) = result-of y x there is_x in
          hop (Done y) t z 0 w is there is_t arc_is is_z (omega (arith, le, more, sum))

      covered-hop : (s t : Stage) (v : ℕ) → later_arc b (row_at b k) (row_at b n) s t ≡ Some v → IsHopped s t v
      covered-hop =
          later-cases b k n IsHopped
          (λ u w is is_s is_t at sum.
          let (x, there, le) = to-j Issue Issue u (row_at b k).parcels refl refl refl at in
          hop Issue Issue x (row_at b j).parcels w is refl refl refl there (omega (arith, le, sum)))
          (λ y used. by-result y Issue (or_left (writes (row_at b n) y) (has_reg y (row_at b n).reads) used) (if-only (writes (row_at b n) y) 0 used))
          (λ shares u w is is_s is_t at sum.
          let (first, second) = covers-unit b k j n covered shares in
          let (x, is_x, le) = to-j Free Issue u 0 refl refl (if-only (share_unit b k j) 0 first) at in
          let (z, is_z, more) = free-of x is_x in
          hop Free Issue z 0 w is refl refl (if-only (share_unit b j n) 0 second) is_z (omega (arith, le, more, sum)))
          (λ y used. by-result y Start (or_right (writes (row_at b n) y) (has_reg y (row_at b n).reads) used) (if-only (has_reg y (row_at b n).reads) 0 used))
          (λ pair u w is is_s is_t at sum.
          let (first, second) = covers-memory b k j n covered pair in
          let (x, is_x, le) = to-j Start Start u 1 refl refl (if-only (memory_pair (row_at b k).memory (row_at b j).memory) 1 first) at in
          hop Start Start x 1 w is refl refl (if-only (memory_pair (row_at b j).memory (row_at b n).memory) 1 second) is_x (omega (arith, le, sum)))
          -- it waits for what the one between writes already when it issues
          (λ y used u w is is_s is_t at sum.
          let there : writes (row_at b j) y ≡ true = covers-second b k j n y covered is_t (or_right (writes (row_at b k) y) (has_reg y (row_at b k).reads) used) in
          let (x, is_x, le) = to-j Start (Done y) u 1 refl there (if-only (has_reg y (row_at b k).reads) 1 used) at in
          let (z, is_z, more) = some-height (S (At n Issue)) (x + 0) (step g ordered Forward e (At j (Done y)) (At n Issue) x 0 is_x (later-edge g ordered Forward j n is_j is_n j_before (Done y) Issue 0 there refl (if-only (writes (row_at b n) y) 0 is_t))) in
          let (a, is_a, most) = start-of n z is_n is_z in
          let same : a + latency_to (row_at b n) y ≡ w =
          no-longer (At n Start) (Done y) a (latency_to (row_at b n) y) w is is_a (own-edge g ordered Forward n is_n Start (Done y) (latency_to (row_at b n) y) refl is_t refl) (omega (arith, le, more, most, sum)) in
          inr (Start, a, latency_to (row_at b n) y, is-stage g ordered n Start is_n refl, refl, is_a, same))

    near-hop : (k : ℕ) (s t : Stage) (u v w : ℕ) → S (At n t) ≡ Some w → is_moment b (At k s) ≡ true → is_moment b (At n t) ≡ true → before k n ≡ true → later_arc b (row_at b k) (row_at b n) s t ≡ Some v → S (At k s) ≡ Some u → u + v ≡ w → IsHop walk t w
    near-hop k s t u v w is is_s is_t k_before arc_is at sum =
        let is_k : IsNumber b k = moment-number b k s is_s in
        elim (is_near.enough k is_k k_before) [
          | inl here ↦ inl (k, s, u, v, here, is_s, k_before, arc_is, at, sum)
          | inr (j, is_j, j_near, between, covered) ↦
              covered-hop k is_k k_before j is_j j_near between covered s t v arc_is u w is (moment-parts b k s is_s).1 (moment-parts b n t is_t).1 at sum
        ]

    -- BY ARCS, of its own and from the others

    abbrev its_writes : List Write
    its_writes = (row_at b n).writes

    abbrev after : Times
    after = by_all Forward b near times n

    -- from m to a stage
    abbrev from_one : Stage → ℕ → Option ℕ
    from_one t m = by_stages (λ s. later_along Forward b m n s t) (T m) (row_at b m).writes

    issue-one : (m : ℕ) → issue_after b n m (T m) ≡ from_one Issue m
    issue-one m =
        let parcels : Option ℕ = add (T m).issue (row_at b m).parcels in
        let unit : Option ℕ = via (T m).free (only_if (share_unit b m n) 0) in
        ap (λ o. later parcels (later o (latest_done (writes (row_at b n)) (T m) (row_at b m).writes))) (sym (via-zero (share_unit b m n) (T m).free))
        ∙ ap (λ o. later parcels (later unit o)) (sym (results-zero (writes (row_at b n)) (T m) (row_at b m).writes))

    start-one : (m : ℕ) → start_after b n m (T m) ≡ from_one Start m
    start-one m =
        let pair : Bool = memory_pair (row_at b m).memory (row_at b n).memory in
        ap (λ o. later o (latest_done (λ x. has_reg x (row_at b n).reads) (T m) (row_at b m).writes)) (sym (via-if pair (T m).start 1))
        ∙ ap (later (via (T m).start (only_if pair 1))) (sym (results-zero (λ x. has_reg x (row_at b n).reads) (T m) (row_at b m).writes))

    done-one : (x : Reg) (m : ℕ) → done_after b m (T m) x ≡ from_one (Done x) m
    done-one x m =
        let reads : Bool = has_reg x (row_at b m).reads in
        sym (via-if reads (T m).start 1) ∙ sym (alone (via (T m).start (only_if reads 1)) (via_results (λ y. None) (T m) (row_at b m).writes) (results-none (T m) (row_at b m).writes))

    -- ITS STAGES, one after the other

    abbrev issue : Option ℕ
    issue = head_issue e n after (by_loads Forward g.loads times e (At n Issue))

    issue-is : issue ≡ S (At n Issue)
    issue-is =
        by-parts walk near-hop Issue refl no_times (record { issue = λ v is. absurd (None-none v is); start = λ v is. absurd (None-none v is); free = λ v is. absurd (None-none v is); results = λ x v is. absurd (None-none v is) }) None after.issue
        (sym (results-none no_times its_writes)) (part near (after_one b times n) (λ t. t.issue) refl (λ s t. refl) all ∙ all-same near (λ m. issue_after b n m (T m)) (from_one Issue) all issue-one)

    abbrev start : Option ℕ
    start = head_start e n after issue (by_loads Forward g.loads times e (At n Start))

    abbrev results : Times
    results = head_results b e n after issue start

    start-is : start ≡ S (At n Start)
    start-is =
        later-assoc (at_once e (At n Start)) issue (later after.start (by_loads Forward g.loads times e (At n Start)))
        ∙ by-parts walk near-hop Start refl results (record { issue = λ v is. issue-is; start = λ v is. absurd (None-none v is); free = λ v is. absurd (None-none v is); results = λ x v is. absurd (None-none v is) }) issue after.start
        (sym (alone-zero issue (via_results (λ x. None) results its_writes) (results-none results its_writes))) (part near (after_one b times n) (λ t. t.start) refl (λ s t. refl) all ∙ all-same near (λ m. start_after b n m (T m)) (from_one Start) all start-one)

    abbrev readers : Reg → Option ℕ
    readers x = latest (λ m. when (near m) (done_after b m (T m) x)) all

    done-is : (x : Reg) → writes (row_at b n) x ≡ true → head_done b e n start (readers x) x ≡ S (At n (Done x))
    done-is x there =
        let by_start : Option ℕ = add start (latency_to (row_at b n) x) in
        by-others walk near-hop (Done x) there results (record { issue = λ v is. absurd (None-none v is); start = λ v is. start-is; free = λ v is. absurd (None-none v is); results = λ x v is. absurd (None-none v is) }) refl refl by_start (readers x)
        (sym (alone by_start (via_results (λ y. None) results its_writes) (results-none results its_writes))) (all-same near (λ m. done_after b m (T m) x) (from_one (Done x)) all (done-one x))

    results-are : AreResults (λ x. S (At n (Done x))) results its_writes
    results-are =
        results-go (λ x. S (At n (Done x))) near all (λ m. done_after b m (T m)) (head_done b e n start) its_writes after.first after.second results done-is
        (part near (after_one b times n) (λ t. t.first) refl (λ s t. refl) all) (part near (after_one b times n) (λ t. t.second) refl (λ s t. refl) all) refl refl

    free-is : head_free b e n results ≡ S (At n Free)
    free-is =
        let kept : Reg → Bool = λ x. not (fetches (row_at b n) x) in
        let by_start : Option ℕ = add start ((row_at b n).hold + 1) in
        let by_work : Option ℕ = later by_start (add (latest_done kept results its_writes) 1) in
        ap (later origin) (sym (alone by_work None refl))
        ∙ by-others walk near-hop Free refl results (record { issue = λ v is. absurd (None-none v is); start = λ v is. start-is; free = λ v is. absurd (None-none v is); results = λ x v is. results-are }) refl refl by_work None
        (ap (later by_start) (sym (results-one kept results its_writes)))
        (sym (all-same near (from_one Free) (λ m. None) all (λ m. results-none (T m) (row_at b m).writes) ∙ none-gathered near all))

    pub heads-are : AreTimes b S n (times_of Forward g near e times n)
    heads-are = record { issue = issue-is; start = start-is; free = free-is; results = same-results (λ x. S (At n (Done x))) (with_free results (head_free b e n results)) results its_writes refl refl results-are }
