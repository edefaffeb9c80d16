-- The longest paths from all moments to the end are their tails, by what is known after fact lines that are taken; and whether what comes next is too late by them.
use Rattle.std.proofs.Common.{ℕ, zero, suc, ◌-◌, get_or, ◌≡◌, ◌≤◌, ◌+◌, ◌||◌, ◌&&◌, length, Option, Bool, true, false, max, leb, List, [], ◌∷◌, map, Some, refl, sym, ap, ◌∙◌, subst, arith, inl, inr}
use Rattle.std.proofs.Common.{leb-true, leb-false, le-leb}
use Rattle.std.proofs.lemmas.Bool.{cases_Bool, and_from, or_left, or_right, lt-leb}
use Rattle.std.proofs.Math.Bool.{or_assoc}
use Rattle.s66_isa.specs.{greatest, some_of, Among, Write, same_reg}
use Rattle.s66_isa.proofs.SameRegister.{same_reg-self}
use Rattle.s66_model.specs.{Problem, Point, row_at, point_of, points_of, done_at, is_remaining}
use Rattle.s66_model.proofs.PointTimes.{good-at}
use Rattle.s66_model.proofs.Remaining.{remaining-parts}
use Rattle.s66_moments.specs.{Issue, Start, Done, Free, Stage, IsNumber, Moment, At, End, is_moment, has_stage, tail, soonest_path, Known, span, arcs_of, next_value}
use Rattle.s66_moments.proofs.KnownLines.{span-tail}
use Rattle.s66_facts.specs.{Times, AreResults, no_times, times_at, Ground, known_of as known_in}
use Rattle.s66_cert.specs.{Document}
use Rattle.s66_checker.specs.{problem_of, known_of, KnowsAll, AreTaken, HasTails, AreTails, is_reached, is_result_late, is_point_late}
use Rattle.s66_checker.proofs.TakenLines.{shown_facts, taken-sound}

abbrev TailsAre : Problem → Known → Type 0
TailsAre b known =
    (e : Moment) → is_moment b e ≡ true → span b (arcs_of b known) e End ≡ Some (tail b (arcs_of b known) e)

pub has-tails : (d : Document) (g : Ground) → KnowsAll d g → AreTaken d → HasTails g
has-tails d g knows taken =
    let b : Problem = problem_of d in
    let all : TailsAre b (known_of d) = span-tail b (shown_facts d) (known_of d) (taken-sound d taken) in
    subst (λ (p : Problem). TailsAre p (known_in g)) (sym knows.problem) (subst (λ (k : Known). TailsAre b k) (sym knows.known) all)

moment-is : (b : Problem) (n : ℕ) → IsNumber b n → (stage : Stage) → has_stage (row_at b n) stage ≡ true → is_moment b (At n stage) ≡ true
moment-is b n is_n stage has = and_from (is_remaining b.block [] n) (has_stage (row_at b n) stage) (and_from (leb 1 n && leb n (length b.block)) true (and_from (leb 1 n) (leb n (length b.block)) (le-leb 1 n is_n.0) (le-leb n (length b.block) is_n.1)) refl) has

-- from its issue and its start
module _ (g : Ground) (tails : HasTails g) (times : List Times) (are : AreTails g times) (n : ℕ) (is_n : IsNumber g.problem n) where
  pub issue-tail : (times_at times n).issue ≡ Some (tail g.problem (arcs_of g.problem (known_in g)) (At n Issue))
  issue-tail = (are n is_n).issue ∙ tails (At n Issue) (moment-is g.problem n is_n Issue refl)

  pub start-tail : (times_at times n).start ≡ Some (tail g.problem (arcs_of g.problem (known_in g)) (At n Start))
  start-tail = (are n is_n).start ∙ tails (At n Start) (moment-is g.problem n is_n Start refl)

-- A BOUND IS REACHED

times-at : (times : List Times) (n : ℕ) → 1 ≤ n → get_or times (n - 1) no_times ≡ times_at times n
times-at times zero low = absurd (omega (arith, low))
times-at times (suc j) low = (let here : suc j - 1 ≡ j = omega arith in ap (λ i. get_or times i no_times) here)

le-max : (bound x y : ℕ) → leb bound (max x y) ≡ (leb bound x || leb bound y)
le-max bound x y =
    elim (cases_Bool (leb bound x)) [
      | inl high ↦ rw high (le-leb bound (max x y) (omega (arith, leb-true bound x high)))
      | inr low ↦ rw low (elim (cases_Bool (leb bound y)) [
        | inl high ↦ rw high (le-leb bound (max x y) (omega (arith, leb-true bound y high)))
        | inr none ↦ rw none (lt-leb bound (max x y) (omega (arith, leb-false bound x low, leb-false bound y none)))
      ])
    ]

-- some moment, where the first one is reached in any case if there is nothing to reach
module _ (bound : ℕ) (f : Moment → ℕ) (n : ℕ) where
  some-greatest : (ws : List Write) (other : ℕ) → (leb bound other || leb bound (greatest f (map (λ (w : Write). At n (Done w.reg)) ws))) ≡ (leb bound other || some_of (λ (w : Write). leb bound (f (At n (Done w.reg)))) ws)
  some-greatest [] other =
      elim (cases_Bool (leb bound other)) [
        | inl high ↦ rw high refl
        | inr low ↦ rw low (lt-leb bound 0 (omega (arith, leb-false bound other low)))
      ]
  some-greatest (w ∷ ws) other =
      ap (λ t. leb bound other || t) (le-max bound (f (At n (Done w.reg))) (greatest f (map (λ (w : Write). At n (Done w.reg)) ws)))
      ∙ sym (or_assoc (leb bound other) (leb bound (f (At n (Done w.reg)))) _)
      ∙ ap (λ t. t || leb bound (greatest f (map (λ (w : Write). At n (Done w.reg)) ws))) (sym (le-max bound other (f (At n (Done w.reg)))))
      ∙ some-greatest ws (max other (f (At n (Done w.reg))))
      ∙ ap (λ t. t || some_of (λ (w : Write). leb bound (f (At n (Done w.reg)))) ws) (le-max bound other (f (At n (Done w.reg))))
      ∙ or_assoc (leb bound other) (leb bound (f (At n (Done w.reg)))) (some_of (λ (w : Write). leb bound (f (At n (Done w.reg)))) ws)

module _ (g : Ground) (tails : HasTails g) (times : List Times) (are : AreTails g times) (prefix : List ℕ) (n bound : ℕ) (remains : is_remaining g.problem.block prefix n ≡ true) where
  abbrev b : Problem
  b = g.problem

  abbrev after : Moment → ℕ
  after e = tail b (arcs_of b (known_in g)) e

  abbrev value : Moment → ℕ
  value = soonest_path b (arcs_of b (known_in g)) prefix

  abbrev here : Point
  here = point_of b (points_of b prefix) n

  is_n : IsNumber b n
  is_n = (let (low, high, new) = remaining-parts b.block prefix n remains in (low, high))

  path-is : (stage : Stage) (path : Option ℕ) → has_stage (row_at b n) stage ≡ true → path ≡ span b (arcs_of b (known_in g)) (At n stage) End → path ≡ Some (after (At n stage))
  path-is stage path has is = is ∙ tails (At n stage) (moment-is b n is_n stage has)

  reached-is : (time : ℕ) (stage : Stage) (path : Option ℕ) → has_stage (row_at b n) stage ≡ true → path ≡ span b (arcs_of b (known_in g)) (At n stage) End → is_reached bound time path ≡ leb bound (time + after (At n stage))
  reached-is time stage path has is = ap (is_reached bound time) (path-is stage path has is)

  abbrev late_result : Write → Bool
  late_result w = leb bound (value (At n (Done w.reg)))

  results-late : (ws : List Write) → length ws ≤ 2 → ((w : Write) → Among w ws → has_stage (row_at b n) (Done w.reg) ≡ true) → AreResults (λ x. span b (arcs_of b (known_in g)) (At n (Done x)) End) (times_at times n) ws →
      is_result_late bound here (times_at times n) ws ≡ some_of late_result ws
  results-late [] few has results = refl
  results-late (v ∷ []) few has results =
      reached-is (done_at here v.reg) (Done v.reg) (times_at times n).first (has v (inl refl)) results ∙ sym (or_none (late_result v))
    where
      or_none : (test : Bool) → (test || false) ≡ test
      or_none true = refl
      or_none false = refl
  results-late (v ∷ (w ∷ [])) few has results =
      rw (reached-is (done_at here v.reg) (Done v.reg) (times_at times n).first (has v (inl refl)) results.0, reached-is (done_at here w.reg) (Done w.reg) (times_at times n).second (has w (inr (inl refl))) results.1)
      (ap (λ t. late_result v || t) (sym (or_none (late_result w))))
    where
      or_none : (test : Bool) → (test || false) ≡ test
      or_none true = refl
      or_none false = refl
  results-late (v ∷ (w ∷ (x ∷ ws))) few has results = absurd (omega (arith, few))

  among-writes : (w : Write) (ws : List Write) → Among w ws → some_of (λ (v : Write). same_reg v.reg w.reg) ws ≡ true
  among-writes w [] among = absurd among
  among-writes w (v ∷ ws) (inl here) = or_left (same_reg v.reg w.reg) _ (ap (λ (u : Write). same_reg u.reg w.reg) (sym here) ∙ same_reg-self w.reg)
  among-writes w (v ∷ ws) (inr later) = or_right (same_reg v.reg w.reg) _ (among-writes w ws later)

  late-here : is_point_late bound here (times_at times n) (row_at b n).writes ≡ leb bound (next_value b (known_in g) prefix n)
  late-here =
      let ws : List Write = (row_at b n).writes in
      let told = are n is_n in
      let results = results-late ws (good-at b n).results (λ w among. among-writes w ws among) told.results in
      let i : Bool = leb bound (value (At n Issue)) in
      let s : Bool = leb bound (value (At n Start)) in
      let f : Bool = leb bound (value (At n Free)) in
      let rest : ℕ = greatest value (map (λ (w : Write). At n (Done w.reg)) ws) in
      rw (reached-is here.issue Issue (times_at times n).issue refl told.issue, reached-is here.start Start (times_at times n).start refl told.start, reached-is here.free Free (times_at times n).free refl told.free, results)
      (or_assoc (i || s) f (some_of late_result ws)
      ∙ or_assoc i s (f || some_of late_result ws)
      ∙ sym (le-max bound (value (At n Issue)) (max (value (At n Start)) (max (value (At n Free)) rest))
      ∙ ap (λ t. i || t) (le-max bound (value (At n Start)) (max (value (At n Free)) rest)
      ∙ ap (λ t. s || t) (le-max bound (value (At n Free)) rest ∙ some-greatest bound value n ws (value (At n Free))))))

  pub late-is : (p : Point) (ws : List Write) (t : Times) → p ≡ here → ws ≡ (row_at b n).writes → t ≡ get_or times (n - 1) no_times → is_point_late bound p t ws ≡ leb bound (next_value b (known_in g) prefix n)
  late-is p ws t e1 e2 e3 = rw (e1, e2, e3 ∙ times-at times n is_n.0) late-here
