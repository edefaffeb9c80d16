-- Used by contracts: the times of the moments of an instruction, and how they are found by one step from those of the others.
use Rattle.std.specs.Prelude.{ℕ, zero, suc, ◌+◌, ◌-◌, ◌^◌, ◌≡◌, Bool, not, if◌then◌else◌, ◌&&◌, ◌==◌, max, min, List, [], ◌∷◌, get_or, Option, Some, None}
use Rattle.s66_isa.specs.{Reg, Row, Write, same_kind, has_reg, memory_pair, numbers}
use Rattle.s66_model.specs.{Problem, row_at, copies}
use Rattle.s66_moments.specs.{Issue, Start, Done, Free, Moment, Origin, At, End, KnownArc, writes, fetches, latency_to, only_if, same_moment, later, latest}
use Rattle.s66_facts.specs.declared.direction.Direction.{Direction}
use Rattle.s66_facts.specs.declared.direction.Direction.TheVariants.{Forward, Backward}
use Rattle.s66_facts.specs.declared.times.Times.{Times}
use Rattle.s66_facts.specs.BlockGround.{Ground}
use Rattle.s66_facts.specs.Directions.{source, arc_start, arc_end}

-- so much later, up to the greatest number of the machine
abbrev pub add : Option ℕ → ℕ → Option ℕ
add None wait = None
add (Some t) wait = Some (max t (min (t + wait) (2 ^ 64 - 1)))

abbrev pub when : Bool → Option ℕ → Option ℕ
when test o = if test then o else None

abbrev pub no_times : Times
no_times = record { issue = None; start = None; free = None; first = None; second = None }

abbrev pub later_times : Times → Times → Times
later_times s t =
    record { issue = later s.issue t.issue; start = later s.start t.start; free = later s.free t.free; first = later s.first t.first; second = later s.second t.second }

-- those of this number
abbrev pub times_at : List Times → ℕ → Times
times_at times zero = no_times
times_at times (suc n) = get_or times n no_times

-- the later of the results in registers that pass
abbrev pub latest_done : (Reg → Bool) → Times → List Write → Option ℕ
latest_done test t [] = None
latest_done test t (v ∷ []) = when (test v.reg) t.first
latest_done test t (v ∷ (w ∷ ws)) = later (when (test v.reg) t.first) (when (test w.reg) t.second)

-- of each of the results
abbrev pub first_of : (Reg → Option ℕ) → List Write → Option ℕ
first_of time [] = None
first_of time (v ∷ ws) = time v.reg

abbrev pub second_of : (Reg → Option ℕ) → List Write → Option ℕ
second_of time [] = None
second_of time (v ∷ []) = None
second_of time (v ∷ (w ∷ ws)) = time w.reg

-- both need the only unit
abbrev pub share_unit : Problem → ℕ → ℕ → Bool
share_unit b m n = same_kind (row_at b m).kind (row_at b n).kind && copies b (row_at b n).kind == 1

-- the latest of what these give, if the test says that they stand so
abbrev pub gathered : (ℕ → Bool) → (ℕ → Times) → List ℕ → Times
gathered test times [] = no_times
gathered test times (m ∷ ms) = later_times (if test m then times m else no_times) (gathered test times ms)

-- at what a load may come after or before
abbrev pub time_at_moment : List Times → Option ℕ → Option ℕ → Moment → Option ℕ
time_at_moment times origin end Origin = origin
time_at_moment times origin end (At n Issue) = (times_at times n).issue
time_at_moment times origin end (At n Start) = (times_at times n).start
time_at_moment times origin end (At n (Done x)) = None
time_at_moment times origin end (At n Free) = None
time_at_moment times origin end End = end

-- the time of a moment by an arc that may lead to it, if the moment where that begins has this time
abbrev pub by_arc : Direction → (Moment → Option ℕ) → Moment → KnownArc → Option ℕ
by_arc d time e l = when (same_moment (arc_end d l) e) (add (time (arc_start d l)) l.wait)

-- the moments where loads begin; the time of the one at which all paths do is given
abbrev pub time_along : Direction → List Times → Option ℕ → Moment → Option ℕ
time_along Forward times first = time_at_moment times first None
time_along Backward times first = time_at_moment times None first

-- the latest by loads that lead to a moment
abbrev pub by_loads : Direction → List KnownArc → List Times → Moment → Moment → Option ℕ
by_loads d loads times e f = latest (by_arc d (time_along d times (only_if (same_moment e (source d)) 0)) f) loads

-- FROM A MOMENT ON: n after m, which stands before

abbrev pub issue_after : Problem → ℕ → ℕ → Times → Option ℕ
issue_after b n m t =
    later (add t.issue (row_at b m).parcels)
    (later (when (share_unit b m n) t.free) (latest_done (writes (row_at b n)) t (row_at b m).writes))

abbrev pub start_after : Problem → ℕ → ℕ → Times → Option ℕ
start_after b n m t =
    later (when (memory_pair (row_at b m).memory (row_at b n).memory) (add t.start 1))
    (latest_done (λ x. has_reg x (row_at b n).reads) t (row_at b m).writes)

abbrev pub done_after : Problem → ℕ → Times → Reg → Option ℕ
done_after b m t x = when (has_reg x (row_at b m).reads) (add t.start 1)

abbrev pub after_one : Problem → List Times → ℕ → ℕ → Times
after_one b times n m =
    record {
      issue = issue_after b n m (times_at times m);
      start = start_after b n m (times_at times m);
      free = None;
      first = first_of (done_after b m (times_at times m)) (row_at b n).writes;
      second = second_of (done_after b m (times_at times m)) (row_at b n).writes;
    }

-- from the moment itself, or from the origin
abbrev pub at_once : Moment → Moment → Option ℕ
at_once e f = later (only_if (same_moment e f) 0) (only_if (same_moment e Origin) 0)

abbrev pub head_issue : Moment → ℕ → Times → Option ℕ → Option ℕ
head_issue e n after load = later (at_once e (At n Issue)) (later after.issue load)

abbrev pub head_start : Moment → ℕ → Times → Option ℕ → Option ℕ → Option ℕ
head_start e n after issue load = later (later (at_once e (At n Start)) issue) (later after.start load)

-- by its start, and by the readers of the register
abbrev pub head_done : Problem → Moment → ℕ → Option ℕ → Option ℕ → Reg → Option ℕ
head_done b e n start readers x = later (only_if (same_moment e Origin) 0) (later (add start (latency_to (row_at b n) x)) readers)

abbrev pub head_results : Problem → Moment → ℕ → Times → Option ℕ → Option ℕ → Times
head_results b e n after issue start =
    record {
      issue = issue;
      start = start;
      free = None;
      first = first_of (head_done b e n start after.first) (row_at b n).writes;
      second = second_of (head_done b e n start after.second) (row_at b n).writes;
    }

-- by its work, and by the results that it holds
abbrev pub head_free : Problem → Moment → ℕ → Times → Option ℕ
head_free b e n t =
    later (only_if (same_moment e Origin) 0)
    (later (add t.start ((row_at b n).hold + 1)) (add (latest_done (λ x. not (fetches (row_at b n) x)) t (row_at b n).writes) 1))

abbrev pub with_free : Times → Option ℕ → Times
with_free t free = record { issue = t.issue; start = t.start; free = free; first = t.first; second = t.second }

-- with the latest by loads that lead to its issue and to its start
abbrev pub heads_of : Problem → Moment → ℕ → Times → (load_issue load_start : Option ℕ) → Times
heads_of b e n after load_issue load_start =
    let issue : Option ℕ = head_issue e n after load_issue in
    let t : Times = head_results b e n after issue (head_start e n after issue load_start) in
    with_free t (head_free b e n t)

-- UP TO A MOMENT: n before m, which stands after

abbrev pub start_before : Problem → ℕ → ℕ → Times → Option ℕ
start_before b n m t =
    later (when (memory_pair (row_at b n).memory (row_at b m).memory) (add t.start 1))
    (add (latest_done (λ x. has_reg x (row_at b n).reads) t (row_at b m).writes) 1)

abbrev pub done_before : Problem → ℕ → Times → Reg → Option ℕ
done_before b m t x = later (when (writes (row_at b m) x) t.issue) (when (has_reg x (row_at b m).reads) t.start)

abbrev pub before_one : Problem → List Times → ℕ → ℕ → Times
before_one b times n m =
    record {
      issue = add (times_at times m).issue (row_at b n).parcels;
      start = start_before b n m (times_at times m);
      free = when (share_unit b n m) (times_at times m).issue;
      first = first_of (done_before b m (times_at times m)) (row_at b n).writes;
      second = second_of (done_before b m (times_at times m)) (row_at b n).writes;
    }

abbrev pub tail_free : Moment → Times → Option ℕ
tail_free f before = later (only_if (same_moment f End) 0) before.free

-- by what waits for the result, and by the free of its unit if that holds it
abbrev pub tail_done : Problem → Moment → ℕ → Option ℕ → Option ℕ → Reg → Option ℕ
tail_done b f n free waiting x = later (only_if (same_moment f End) 0) (later (when (not (fetches (row_at b n) x)) (add free 1)) waiting)

abbrev pub tail_results : Problem → Moment → ℕ → Times → Option ℕ → Times
tail_results b f n before free =
    record {
      issue = None;
      start = None;
      free = free;
      first = first_of (tail_done b f n free before.first) (row_at b n).writes;
      second = second_of (tail_done b f n free before.second) (row_at b n).writes;
    }

-- a result after its latency
abbrev pub latest_result : Row → Times → List Write → Option ℕ
latest_result r t [] = None
latest_result r t (v ∷ []) = add t.first (latency_to r v.reg)
latest_result r t (v ∷ (w ∷ ws)) = later (add t.first (latency_to r v.reg)) (add t.second (latency_to r w.reg))

abbrev pub tail_start : Problem → Moment → ℕ → Times → Times → Option ℕ → Option ℕ
tail_start b f n before t load =
    later (later (only_if (same_moment f (At n Start)) 0) (add t.free ((row_at b n).hold + 1)))
    (later (latest_result (row_at b n) t (row_at b n).writes) (later before.start load))

abbrev pub tail_issue : Moment → ℕ → Times → Option ℕ → Option ℕ → Option ℕ
tail_issue f n before start load = later (later (only_if (same_moment f (At n Issue)) 0) start) (later before.issue load)

abbrev pub tails_of : Problem → Moment → ℕ → Times → (load_issue load_start : Option ℕ) → Times
tails_of b f n before load_issue load_start =
    let t : Times = tail_results b f n before (tail_free f before) in
    let start : Option ℕ = tail_start b f n before t load_start in
    record { issue = tail_issue f n before start load_issue; start = start; free = t.free; first = t.first; second = t.second }

-- IN A DIRECTION

-- n by one number that comes sooner
abbrev pub by_one : Direction → Problem → List Times → ℕ → ℕ → Times
by_one Forward = after_one
by_one Backward = before_one

-- by all that pass
abbrev pub by_all : Direction → Problem → (ℕ → Bool) → List Times → ℕ → Times
by_all d b near times n = gathered near (by_one d b times n) (numbers b.block)

-- all its moments, by what is gathered and by loads
abbrev pub all_moments : Direction → Problem → Moment → ℕ → Times → (load_issue load_start : Option ℕ) → Times
all_moments Forward = heads_of
all_moments Backward = tails_of

abbrev pub times_of : Direction → Ground → (ℕ → Bool) → Moment → List Times → ℕ → Times
times_of d g near e times n =
    all_moments d g.problem e n (by_all d g.problem near times n) (by_loads d g.loads times e (At n Issue)) (by_loads d g.loads times e (At n Start))

-- WHAT TIMES ARE

abbrev pub AreResults : (Reg → Option ℕ) → Times → List Write → Type 0
AreResults time t [] = Unit {0}
AreResults time t (v ∷ []) = t.first ≡ time v.reg
AreResults time t (v ∷ (w ∷ ws)) = (t.first ≡ time v.reg) × (t.second ≡ time w.reg)

-- those of a number
pub record AreTimes (b : Problem) (time : Moment → Option ℕ) (n : ℕ) (t : Times) : Type 0 where
  pub issue : t.issue ≡ time (At n Issue)
  pub start : t.start ≡ time (At n Start)
  pub free : t.free ≡ time (At n Free)
  pub results : AreResults (λ x. time (At n (Done x))) t (row_at b n).writes
