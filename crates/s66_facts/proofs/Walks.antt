-- Longest paths in a direction to the moments of a number, by those of all that comes sooner: what is true of each of its stages.
use Rattle.std.proofs.Common.{ℕ, ◌+◌, ◌≤◌, ◌<◌, ◌≡◌, ◌⊎◌, Bool, true, false, true≢false, List, [], ◌∷◌, refl, sym, ap, arith, inl, inr, ◌∙◌, subst, Option, Some, None}
use Rattle.s66_isa.specs.{Among, Reg, Write, numbers}
use Rattle.s66_model.specs.{Problem, row_at}
use Rattle.s66_moments.specs.{Stage, Issue, Start, Done, Free, Moment, Origin, At, End, KnownArc, has_stage, is_moment, only_if, IsNumber, same_moment, later, latest, is_front, is_back, leads_up}
use Rattle.s66_moments.proofs.TableArcs.{moment-parts, moment-number}
use Rattle.s66_moments.proofs.MoreArcs.{same_moment-true, same_moment-self}
use Rattle.s66_moments.proofs.KnownLines.{up-parts}
use Rattle.s66_moments.proofs.Rings.{number-among, among-number}
use Rattle.s66_moments.proofs.Spans.{same-high, height, height-same, some-height, later-left, later-right, latest-high}
use Rattle.s66_facts.specs.{Direction, Forward, Backward, Times, before_in, Ground, ground_arcs, IsAcyclic, source, can_begin, sooner, arc_start, arc_end, arcs_along, span_along, add, when, times_at}
use Rattle.s66_facts.specs.{first_of, second_of, time_along, by_arc, by_loads, AreResults, AreTimes}
use Rattle.s66_facts.proofs.Edges.{later-low, latest-low, when-low, only_if-low, most_time, add-high, when-high, between, HasArc, own_along, later_along, is_reached, span-fits, none-high, last-arc}
use Rattle.s66_facts.proofs.Edges.{step, step-low, to-source, load-arc, own-edge, later-edge, source-edge, leads}
use Rattle.s66_facts.proofs.Covered.{IsNearBy}
use Rattle.s66_facts.proofs.Results.{is_in, in-first, in-second, by_stages, IsRight, all-right, stages-high, stages-low, all-high, all-low, alone}

-- where loads lead: to an issue, a start, or the moment at which all paths end
abbrev pub can_end : Direction → Moment → Bool
can_end Forward = is_back
can_end Backward = is_front

-- up in the direction
abbrev IsUp : Direction → (ℕ → ℕ → Bool) → Moment → Moment → Type 0
IsUp Forward before e f = leads_up before e f ≡ true
IsUp Backward before e f = leads_up before f e ≡ true

load-parts : (d : Direction) (g : Ground) → IsAcyclic g → (l : KnownArc) → Among l g.loads →
    (can_begin d (arc_start d l) ≡ true) × (is_moment g.problem (arc_start d l) ≡ true) × (can_end d (arc_end d l) ≡ true) × IsUp d (before_in g.marks) (arc_start d l) (arc_end d l)
load-parts Forward g ordered l among = (let (is_f, is, is_b, is_to, up) = up-parts g.problem (before_in g.marks) l.from l.to (ordered.up l among) in (is_f, is, is_b, up))
load-parts Backward g ordered l among = (let (is_f, is, is_b, is_to, up) = up-parts g.problem (before_in g.marks) l.from l.to (ordered.up l among) in (is_b, is_to, is_f, up))

-- paths from e to number n, by those of what comes sooner, of which the near numbers decide
pub record Walk : Type 0 where
  pub d : Direction
  pub g : Ground
  pub ordered : IsAcyclic g
  pub e : Moment
  pub begins : can_begin d e ≡ true
  pub times : List Times
  pub n : ℕ
  pub is_n : IsNumber g.problem n
  pub near : ℕ → Bool
  pub is_near : IsNearBy g.problem (sooner d (before_in g.marks)) near n
  pub known : (m : ℕ) → IsNumber g.problem m → sooner d (before_in g.marks) m n ≡ true → AreTimes g.problem (span_along d g e) m (times_at times m)

-- BY LOADS: what a load begins at comes sooner

at-start : (a : Walk) (d : Direction) (first : Option ℕ) (time : Moment → Option ℕ) (m : Moment) (t : Stage) → first ≡ time (source d) →
    ((k : ℕ) → IsNumber a.g.problem k → sooner d (before_in a.g.marks) k a.n ≡ true → AreTimes a.g.problem time k (times_at a.times k)) →
    can_begin d m ≡ true → is_moment a.g.problem m ≡ true → IsUp d (before_in a.g.marks) m (At a.n t) → time_along d a.times first m ≡ time m
at-start a Forward first time Origin t begins known is_f is up = begins
at-start a Forward first time (At k Issue) t begins known is_f is up = (known k (moment-number a.g.problem k Issue is) up).issue
at-start a Forward first time (At k Start) t begins known is_f is up = (known k (moment-number a.g.problem k Start is) up).start
at-start a Backward first time Origin t begins known is_b is up = absurd (true≢false (sym is_b))
at-start a Backward first time (At k Issue) t begins known is_b is up = (known k (moment-number a.g.problem k Issue is) up).issue
at-start a Backward first time (At k Start) t begins known is_b is up = (known k (moment-number a.g.problem k Start is) up).start
at-start a Backward first time (At k (Done x)) t begins known is_b is up = absurd (true≢false (sym is_b))
at-start a Backward first time (At k Free) t begins known is_b is up = absurd (true≢false (sym is_b))
at-start a Backward first time End t begins known is_b is up = begins
at-start a Forward first time _ t begins known is_f is up = absurd (true≢false (sym is_f))

module _ (a : Walk) where
  abbrev b : Problem
  b = a.g.problem

  abbrev S : Moment → Option ℕ
  S = span_along a.d a.g a.e

  abbrev pub IsSooner : ℕ → Type 0
  IsSooner m = sooner a.d (before_in a.g.marks) m a.n ≡ true

  pub stands : (m : ℕ) → Among m (numbers b.block) → a.near m ≡ true → IsSooner m
  stands m among is = a.is_near.within m (among-number b m among) is

  -- FROM WHERE ALL PATHS BEGIN, AND FROM ITSELF

  abbrev pub origin : Option ℕ
  origin = only_if (same_moment a.e (source a.d)) 0

  pub origin-low : (t : Stage) → is_reached a.d t ≡ true → has_stage (row_at b a.n) t ≡ true → height origin ≤ height (S (At a.n t))
  origin-low t is there =
      only_if-low (same_moment a.e (source a.d)) (height (S (At a.n t))) (λ same.
      let (u, at, le) = some-height (S (source a.d)) 0 (none-high a.g a.ordered a.d a.e (source a.d) (same_moment-true a.e (source a.d) same)) in
      omega (arith, step a.g a.ordered a.d a.e (source a.d) (At a.n t) u 0 at (source-edge a.g a.ordered a.d a.n a.is_n t is there)))

  pub itself-low : (t : Stage) → height (only_if (same_moment a.e (At a.n t)) 0) ≤ height (S (At a.n t))
  itself-low t = only_if-low (same_moment a.e (At a.n t)) (height (S (At a.n t))) (λ same. none-high a.g a.ordered a.d a.e (At a.n t) (same_moment-true a.e (At a.n t) same))

  origin-high : (m : Moment) (u v w : ℕ) → S m ≡ Some u → m ≡ source a.d → 0 ≡ v → u + v ≡ w → w < height origin
  origin-high m u v w is at nil sum =
      let (same, none) = to-source a.g a.ordered a.d a.e u (ap S (sym at) ∙ is) in
      omega (arith, nil, none, sum, same-high a.e (source a.d) same)

  origin-span : origin ≡ S (source a.d)
  origin-span =
      height-same origin (S (source a.d)) (omega (
        arith,
        only_if-low (same_moment a.e (source a.d)) (height (S (source a.d))) (λ same. none-high a.g a.ordered a.d a.e (source a.d) (same_moment-true a.e (source a.d) same)),
        between (S (source a.d)) origin (λ u is. (let (same, none) = to-source a.g a.ordered a.d a.e u is in omega (arith, none, same-high a.e (source a.d) same))),
      ))

  -- BY LOADS

  abbrev time : Moment → Option ℕ
  time = time_along a.d a.times origin

  one-load : (l : KnownArc) (t : Stage) → Among l a.g.loads → At a.n t ≡ arc_end a.d l → time (arc_start a.d l) ≡ S (arc_start a.d l)
  one-load l t among to =
      let (starts, is, ends, up) = load-parts a.d a.g a.ordered l among in
      at-start a a.d origin S (arc_start a.d l) t origin-span a.known starts is (subst (IsUp a.d (before_in a.g.marks) (arc_start a.d l)) (sym to) up)

  loads-high : (l : KnownArc) (t : Stage) (m : Moment) (u v w : ℕ) → Among l a.g.loads → m ≡ arc_start a.d l → At a.n t ≡ arc_end a.d l → v ≡ l.wait → S m ≡ Some u → u + v ≡ w → w ≤ most_time → w < height (by_loads a.d a.g.loads a.times a.e (At a.n t))
  loads-high l t m u v w among from to wait is sum fits =
      let there : time (arc_start a.d l) ≡ Some u = one-load l t among to ∙ (ap S (sym from) ∙ is) in
      let same : same_moment (arc_end a.d l) (At a.n t) ≡ true = subst (λ k. same_moment (arc_end a.d l) k ≡ true) (sym to) (same_moment-self (arc_end a.d l)) in
      latest-high (by_arc a.d time (At a.n t)) l a.g.loads w among
      (when-high (same_moment (arc_end a.d l) (At a.n t)) (add (time (arc_start a.d l)) l.wait) w same (add-high (time (arc_start a.d l)) u l.wait w there (omega (arith, sum, wait)) fits))

  pub loads-low : (t : Stage) → height (by_loads a.d a.g.loads a.times a.e (At a.n t)) ≤ height (S (At a.n t))
  loads-low t =
      latest-low (by_arc a.d time (At a.n t)) a.g.loads (height (S (At a.n t))) (λ l among.
      when-low (same_moment (arc_end a.d l) (At a.n t)) (add (time (arc_start a.d l)) l.wait) (height (S (At a.n t))) (λ same.
      let to : arc_end a.d l ≡ At a.n t = same_moment-true (arc_end a.d l) (At a.n t) same in
      step-low a.g a.ordered a.d a.e (arc_start a.d l) (At a.n t) (time (arc_start a.d l)) l.wait (one-load l t among (sym to)) (subst (HasArc (arcs_along a.d (ground_arcs a.g)) (arc_start a.d l) l.wait) to (load-arc a.g a.ordered a.d l among))))

  -- no load leads to a result or a free, and none is where paths begin
  pub no-load : (l : KnownArc) (t : Stage) → Among l a.g.loads → At a.n t ≡ arc_end a.d l → can_end a.d (At a.n t) ≡ false → ⊥
  no-load l t among to off = true≢false (sym (subst (λ m. can_end a.d m ≡ true) (sym to) (load-parts a.d a.g a.ordered l among).2) ∙ off)

  pub no-begin : (t : Stage) → a.e ≡ At a.n t → can_begin a.d (At a.n t) ≡ false → ⊥
  no-begin t is off = true≢false (sym (subst (λ m. can_begin a.d m ≡ true) is a.begins) ∙ off)

  -- BY THOSE THAT ARE NEAR

  -- an arc from a near number, or of its own, by which a path is as long
  abbrev pub IsHop : Stage → ℕ → Type 0
  IsHop t w =
      ((k : ℕ) × (s : Stage) × (u v : ℕ) × (a.near k ≡ true) × (is_moment b (At k s) ≡ true) × IsSooner k × (later_along a.d b k a.n s t ≡ Some v) × (S (At k s) ≡ Some u) × (u + v ≡ w))
      ⊎ ((s : Stage) × (u v : ℕ) × (is_moment b (At a.n s) ≡ true) × (own_along a.d (row_at b a.n) s t ≡ Some v) × (S (At a.n s) ≡ Some u) × (u + v ≡ w))

  -- an arc from a number that comes sooner is covered by one from a near number, or of its own
  abbrev pub AreCovered : Type 0
  AreCovered =
      (k : ℕ) (s t : Stage) (u v w : ℕ) → S (At a.n t) ≡ Some w → is_moment b (At k s) ≡ true → is_moment b (At a.n t) ≡ true → IsSooner k → later_along a.d b k a.n s t ≡ Some v → S (At k s) ≡ Some u → u + v ≡ w → IsHop t w

  -- the last arc of a path to it
  last-cases : AreCovered → (t : Stage) (w : ℕ) (P : Type 0) → S (At a.n t) ≡ Some w → (a.e ≡ At a.n t → 0 ≡ w → P) → (is_reached a.d t ≡ true → w < height origin → P)
      → ((s : Stage) (u v : ℕ) → is_moment b (At a.n s) ≡ true → own_along a.d (row_at b a.n) s t ≡ Some v → S (At a.n s) ≡ Some u → u + v ≡ w → P)
      → ((k : ℕ) (s : Stage) (u v : ℕ) → is_moment b (At k s) ≡ true → a.near k ≡ true → IsSooner k → later_along a.d b k a.n s t ≡ Some v → S (At k s) ≡ Some u → u + v ≡ w → P)
      → ((l : KnownArc) → Among l a.g.loads → At a.n t ≡ arc_end a.d l → w < height (by_loads a.d a.g.loads a.times a.e (At a.n t)) → P) → P
  last-cases near-hop t w P is itself from_origin own others load =
      elim (last-arc a.g a.ordered a.d a.e (At a.n t) w is) [
        | inl here ↦ itself here.0 here.1
        | inr past ↦
            let (m, u, v, first, then, sum) = past in
            elim (leads a.g a.ordered a.d a.n m t v then) [
              | inl from ↦ from_origin from.2 (origin-high m u v w first from.0 from.1 sum)
              | inr more ↦ elim more [
                | inl by_own ↦ (let (s, at, is_s, arc_is) = by_own in own s u v is_s arc_is (ap S (sym at) ∙ first) sum)
                | inr more2 ↦ elim more2 [
                  | inl by_other ↦
                      let (k, s, at, is_k, is_t, sooner_k, arc_is) = by_other in
                      elim (near-hop k s t u v w is is_k is_t sooner_k arc_is (ap S (sym at) ∙ first) sum) [
                        | inl (j, r, x, y, j_near, is_j, sooner_j, its, there, same) ↦ others j r x y is_j j_near sooner_j its there same
                        | inr (r, x, y, is_r, its, there, same) ↦ own r x y is_r its there same
                      ]
                  | inr by_load ↦ (let (l, among, from, to, wait) = by_load in load l among to (loads-high l t m u v w among from to wait first sum (span-fits a.g a.ordered a.d a.e (At a.n t) w is)))
                ]
              ]
            ]
      ]

  -- A STAGE

  module _ (covered : AreCovered) (t : Stage) (there : has_stage (row_at b a.n) t ≡ true) (mine : Times) (right : IsRight b S a.n mine (λ s. own_along a.d (row_at b a.n) s t)) where
    abbrev h : ℕ
    h = height (S (At a.n t))

    abbrev pub itself : Option ℕ
    itself = only_if (same_moment a.e (At a.n t)) 0

    abbrev pub at_first : Option ℕ
    at_first = when (is_reached a.d t) origin

    abbrev pub own : Option ℕ
    own = by_stages (λ s. own_along a.d (row_at b a.n) s t) mine (row_at b a.n).writes

    abbrev other : ℕ → Option ℕ
    other m = by_stages (λ s. later_along a.d b m a.n s t) (times_at a.times m) (row_at b m).writes

    abbrev pub others : Option ℕ
    others = latest (λ m. when (a.near m) (other m)) (numbers b.block)

    abbrev pub loads : Option ℕ
    loads = by_loads a.d a.g.loads a.times a.e (At a.n t)

    abbrev whole : Option ℕ
    whole = later (later itself at_first) (later own (later others loads))

    its : (m : ℕ) → IsNumber b m → IsSooner m → IsRight b S m (times_at a.times m) (λ s. later_along a.d b m a.n s t)
    its m is_m first = all-right b S m (times_at a.times m) (λ s. later_along a.d b m a.n s t) (a.known m is_m first)

    whole-high : (w : ℕ) → S (At a.n t) ≡ Some w → w < height whole
    whole-high w is =
        let fits : w ≤ most_time = span-fits a.g a.ordered a.d a.e (At a.n t) w is in
        let before : Option ℕ = later itself at_first in
        let rest : Option ℕ = later own (later others loads) in
        last-cases covered t w (w < height whole) is
        (λ same none. later-left before rest w (later-left itself at_first w (omega (arith, none, same-high a.e (At a.n t) same))))
        (λ reached high. later-left before rest w (later-right itself at_first w (when-high (is_reached a.d t) origin w reached high)))
        (λ s u v is_s arc_is first sum. later-right before rest w (later-left own (later others loads) w
        (stages-high b S a.n mine (λ s. own_along a.d (row_at b a.n) s t) right s u v w (moment-parts b a.n s is_s).1 arc_is first sum fits)))
        (λ k s u v is_k k_near sooner_k arc_is first sum. later-right before rest w (later-right own (later others loads) w (later-left others loads w
        (all-high a.near other k (numbers b.block) w (number-among b k (moment-number b k s is_k)) k_near
        (stages-high b S k (times_at a.times k) (λ s. later_along a.d b k a.n s t) (its k (moment-number b k s is_k) sooner_k) s u v w (moment-parts b k s is_k).1 arc_is first sum fits)))))
        (λ l among to high. later-right before rest w (later-right own (later others loads) w (later-right others loads w high)))

    whole-low : height whole ≤ h
    whole-low =
        later-low (later itself at_first) (later own (later others loads)) h
        (later-low itself at_first h (itself-low t) (when-low (is_reached a.d t) origin h (λ reached. origin-low t reached there)))
        (later-low own (later others loads) h
        (stages-low b S a.n mine (λ s. own_along a.d (row_at b a.n) s t) right h (λ s v is_s arc_is. step-low a.g a.ordered a.d a.e (At a.n s) (At a.n t) (S (At a.n s)) v refl (own-edge a.g a.ordered a.d a.n a.is_n s t v is_s there arc_is)))
        (later-low others loads h (all-low a.near other (numbers b.block) h others-low) (loads-low t)))
      where
        others-low : (m : ℕ) → Among m (numbers b.block) → a.near m ≡ true → height (other m) ≤ h
        others-low m among is =
            let first : IsSooner m = stands m among is in
            let is_m : IsNumber b m = among-number b m among in
            stages-low b S m (times_at a.times m) (λ s. later_along a.d b m a.n s t) (its m is_m first) h (λ s v is_s arc_is. step-low a.g a.ordered a.d a.e (At m s) (At a.n t) (S (At m s)) v refl (later-edge a.g a.ordered a.d m a.n is_m a.is_n first s t v is_s there arc_is))

    whole-is : whole ≡ S (At a.n t)
    whole-is = height-same whole (S (At a.n t)) (omega (arith, between (S (At a.n t)) whole whole-high, whole-low))

    -- by its parts
    pub by-parts : (its_own all_others : Option ℕ) → its_own ≡ own → all_others ≡ others → later (later itself at_first) (later its_own (later all_others loads)) ≡ S (At a.n t)
    by-parts its_own all_others same same2 =
        ap (λ o. later (later itself at_first) (later o (later all_others loads))) same ∙ (ap (λ o. later (later itself at_first) (later own (later o loads))) same2 ∙ whole-is)

    -- of an issue or a start, if paths that begin with all others don't lead there
    pub by-itself : is_reached a.d t ≡ false → (its_own all_others : Option ℕ) → its_own ≡ own → all_others ≡ others → later itself (later its_own (later all_others loads)) ≡ S (At a.n t)
    by-itself off its_own all_others same same2 =
        ap (λ o. later o (later its_own (later all_others loads))) (sym (alone itself at_first (ap (λ c. when c origin) off))) ∙ by-parts its_own all_others same same2

    -- of a result or a free, where no load leads and no path that is asked for begins
    pub by-others : can_begin a.d (At a.n t) ≡ false → can_end a.d (At a.n t) ≡ false → (its_own all_others : Option ℕ) → its_own ≡ own → all_others ≡ others → later at_first (later its_own all_others) ≡ S (At a.n t)
    by-others begins ends its_own all_others same same2 =
        ap (λ o. later at_first (later its_own o)) (sym (alone all_others loads no-loads))
        ∙ (ap (λ o. later o (later its_own (later all_others loads))) (sym (ap (λ o. later o at_first) not-itself)) ∙ by-parts its_own all_others same same2)
      where
        no-loads : loads ≡ None
        no-loads =
            height-same loads None (omega (
              arith,
              latest-low (by_arc a.d (time_along a.d a.times origin) (At a.n t)) a.g.loads 0 (λ l among.
                  when-low (same_moment (arc_end a.d l) (At a.n t)) (add (time_along a.d a.times origin (arc_start a.d l)) l.wait) 0 (λ same. absurd (no-load l t among (sym (same_moment-true (arc_end a.d l) (At a.n t) same)) ends))),
            ))

        not-itself : itself ≡ None
        not-itself = height-same itself None (omega (arith, only_if-low (same_moment a.e (At a.n t)) 0 (λ same. absurd (no-begin t (same_moment-true a.e (At a.n t) same) begins))))

-- its results in the order of its row
pub results-go : (time : Reg → Option ℕ) (near : ℕ → Bool) (ms : List ℕ) (part : ℕ → Reg → Option ℕ) (done : Option ℕ → Reg → Option ℕ) (ws : List Write) (first second : Option ℕ) (t : Times) →
    ((x : Reg) → is_in x ws ≡ true → done (latest (λ m. when (near m) (part m x)) ms) x ≡ time x) →
    first ≡ latest (λ m. when (near m) (first_of (part m) ws)) ms → second ≡ latest (λ m. when (near m) (second_of (part m) ws)) ms →
    t.first ≡ first_of (done first) ws → t.second ≡ second_of (done second) ws → AreResults time t ws
results-go time near ms part done [] first second t each one two is_first is_second = tt
results-go time near ms part done (v ∷ []) first second t each one two is_first is_second = is_first ∙ (ap (λ r. done r v.reg) one ∙ each v.reg (in-first v []))
results-go time near ms part done (v ∷ (w ∷ ws)) first second t each one two is_first is_second =
    (is_first ∙ (ap (λ r. done r v.reg) one ∙ each v.reg (in-first v (w ∷ ws))), is_second ∙ (ap (λ r. done r w.reg) two ∙ each w.reg (in-second v w ws)))
