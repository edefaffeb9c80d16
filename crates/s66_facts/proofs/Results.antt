-- The time of a moment by arcs from the stages of a number, its results in the order of its row.
use Rattle.std.proofs.Common.{ℕ, ◌+◌, ◌≤◌, ◌<◌, ◌≡◌, Bool, true, false, true≢false, cond, List, [], ◌∷◌, length, refl, sym, ap, arith, inl, inr, ◌∙◌, subst, Option, Some, None}
use Rattle.std.proofs.Math.Path.{fun_ext}
use Rattle.std.proofs.lemmas.Bool.{or_cases, or_left, or_right}
use Rattle.s66_isa.specs.{Reg, some_of, Among, Row, Write, same_reg}
use Rattle.s66_isa.proofs.SameRegister.{same_reg-true, same_reg-self}
use Rattle.s66_isa.proofs.GoodRows.{row-good}
use Rattle.s66_model.specs.{Problem, row_at}
use Rattle.s66_moments.specs.{Stage, Issue, Start, Done, Free, Moment, At, has_stage, latency_to, only_if, later, latest}
use Rattle.s66_moments.proofs.TableArcs.{Some-same, None-none}
use Rattle.s66_moments.proofs.Spans.{height, height-same, later-left, later-right, latest-high}
use Rattle.s66_facts.specs.{Times, add, when, no_times, later_times, latest_done, latest_result, gathered, AreResults, AreTimes}
use Rattle.s66_facts.proofs.Edges.{later-low, latest-low, when-low, most_time, add-high, when-high}
use Rattle.s66_facts.proofs.Latest.{later-none}

abbrev pub is_in : Reg → List Write → Bool
is_in x ws = some_of (λ (w : Write). same_reg w.reg x) ws

pub in-first : (v : Write) (ws : List Write) → is_in v.reg (v ∷ ws) ≡ true
in-first v ws = or_left (same_reg v.reg v.reg) (is_in v.reg ws) (same_reg-self v.reg)

pub in-second : (v w : Write) (ws : List Write) → is_in w.reg (v ∷ (w ∷ ws)) ≡ true
in-second v w ws = or_right (same_reg v.reg w.reg) (is_in w.reg (w ∷ ws)) (in-first w ws)

-- one of the two that it can be
two-cases : (x : Reg) (v w : Write) (ws : List Write) → length (v ∷ (w ∷ ws)) ≤ 2 → is_in x (v ∷ (w ∷ ws)) ≡ true → (P : Reg → Type 0) → P v.reg → P w.reg → P x
two-cases x v w [] few there P first second =
    elim (or_cases (same_reg v.reg x) (is_in x (w ∷ [])) there) [
      | inl here ↦ subst P (same_reg-true v.reg x here) first
      | inr past ↦
          elim (or_cases (same_reg w.reg x) false past) [
            | inl next ↦ subst P (same_reg-true w.reg x next) second
            | inr none ↦ absurd (true≢false (sym none))
          ]
    ]
two-cases x v w (u ∷ us) few there P first second = absurd (omega (arith, few))

one-case : (x : Reg) (v : Write) → is_in x (v ∷ []) ≡ true → (P : Reg → Type 0) → P v.reg → P x
one-case x v there P first =
    elim (or_cases (same_reg v.reg x) false there) [
      | inl here ↦ subst P (same_reg-true v.reg x here) first
      | inr none ↦ absurd (true≢false (sym none))
    ]

-- BY ARCS from the stages of a number

-- by an arc, if there is one
abbrev pub via : Option ℕ → Option ℕ → Option ℕ
via o None = None
via o (Some w) = add o w

abbrev pub via_results : (Reg → Option ℕ) → Times → List Write → Option ℕ
via_results arc t [] = None
via_results arc t (v ∷ []) = via t.first (arc v.reg)
via_results arc t (v ∷ (w ∷ ws)) = later (via t.first (arc v.reg)) (via t.second (arc w.reg))

abbrev pub by_stages : (Stage → Option ℕ) → Times → List Write → Option ℕ
by_stages arc t ws = later (via t.issue (arc Issue)) (later (via t.start (arc Start)) (later (via t.free (arc Free)) (via_results (λ x. arc (Done x)) t ws)))

via-high : (o a : Option ℕ) (u v w : ℕ) → o ≡ Some u → a ≡ Some v → u + v ≡ w → w ≤ most_time → w < height (via o a)
via-high o None u v w is arc_is sum fits = absurd (None-none v arc_is)
via-high o (Some k) u v w is arc_is sum fits = add-high o u k w is (omega (arith, Some-same k v arc_is, sum)) fits

via-low : (o a : Option ℕ) (h : ℕ) → ((v : ℕ) → a ≡ Some v → height (add o v) ≤ h) → height (via o a) ≤ h
via-low o None h each = omega arith
via-low o (Some v) h each = each v refl

module _ (time : Reg → Option ℕ) (t : Times) (arc : Reg → Option ℕ) where
  results-high : (ws : List Write) → length ws ≤ 2 → AreResults time t ws → (x : Reg) (w : ℕ) → is_in x ws ≡ true → w < height (via (time x) (arc x)) → w < height (via_results arc t ws)
  results-high [] few are x w there high = absurd (true≢false (sym there))
  results-high (v ∷ []) few are x w there high =
      one-case x v there (λ y. w < height (via (time y) (arc y)) → w < height (via t.first (arc v.reg))) (λ high2. subst (λ o. w < height (via o (arc v.reg))) (sym are) high2) high
  results-high (v ∷ (k ∷ ws)) few are x w there high =
      two-cases x v k ws few there (λ y. w < height (via (time y) (arc y)) → w < height (later (via t.first (arc v.reg)) (via t.second (arc k.reg))))
      (λ high2. later-left (via t.first (arc v.reg)) (via t.second (arc k.reg)) w (subst (λ o. w < height (via o (arc v.reg))) (sym are.0) high2))
      (λ high2. later-right (via t.first (arc v.reg)) (via t.second (arc k.reg)) w (subst (λ o. w < height (via o (arc k.reg))) (sym are.1) high2))
      high

  results-low : (ws : List Write) (h : ℕ) → ((x : Reg) (v : ℕ) → arc x ≡ Some v → AreResults time t ws) → ((x : Reg) (v : ℕ) → is_in x ws ≡ true → arc x ≡ Some v → height (add (time x) v) ≤ h) → height (via_results arc t ws) ≤ h
  results-low [] h are each = omega arith
  results-low (v ∷ []) h are each = via-low t.first (arc v.reg) h (λ u is. subst (λ o. height (add o u) ≤ h) (sym (are v.reg u is)) (each v.reg u (in-first v []) is))
  results-low (v ∷ (w ∷ ws)) h are each =
      later-low (via t.first (arc v.reg)) (via t.second (arc w.reg)) h
      (via-low t.first (arc v.reg) h (λ u is. subst (λ o. height (add o u) ≤ h) (sym (are v.reg u is).0) (each v.reg u (in-first v (w ∷ ws)) is)))
      (via-low t.second (arc w.reg) h (λ u is. subst (λ o. height (add o u) ≤ h) (sym (are w.reg u is).1) (each w.reg u (in-second v w ws) is)))

-- the times of the stages of m at which arcs begin are right
pub record IsRight (b : Problem) (time : Moment → Option ℕ) (m : ℕ) (t : Times) (arc : Stage → Option ℕ) : Type 0 where
  pub issue : (v : ℕ) → arc Issue ≡ Some v → t.issue ≡ time (At m Issue)
  pub start : (v : ℕ) → arc Start ≡ Some v → t.start ≡ time (At m Start)
  pub free : (v : ℕ) → arc Free ≡ Some v → t.free ≡ time (At m Free)
  pub results : (x : Reg) (v : ℕ) → arc (Done x) ≡ Some v → AreResults (λ y. time (At m (Done y))) t (row_at b m).writes

pub all-right : (b : Problem) (time : Moment → Option ℕ) (m : ℕ) (t : Times) (arc : Stage → Option ℕ) → AreTimes b time m t → IsRight b time m t arc
all-right b time m t arc are = record { issue = λ v is. are.issue; start = λ v is. are.start; free = λ v is. are.free; results = λ x v is. are.results }

module _ (b : Problem) (time : Moment → Option ℕ) (m : ℕ) (t : Times) (arc : Stage → Option ℕ) (right : IsRight b time m t arc) where
  abbrev its_writes : List Write
  its_writes = (row_at b m).writes

  abbrev by_issue : Option ℕ
  by_issue = via t.issue (arc Issue)

  abbrev by_start : Option ℕ
  by_start = via t.start (arc Start)

  abbrev by_free : Option ℕ
  by_free = via t.free (arc Free)

  abbrev by_results : Option ℕ
  by_results = via_results (λ x. arc (Done x)) t its_writes

  pub stages-high : (s : Stage) (u v w : ℕ) → has_stage (row_at b m) s ≡ true → arc s ≡ Some v → time (At m s) ≡ Some u → u + v ≡ w → w ≤ most_time → w < height (by_stages arc t its_writes)
  stages-high Issue u v w there is at sum fits = later-left by_issue (later by_start (later by_free by_results)) w (via-high t.issue (arc Issue) u v w (right.issue v is ∙ at) is sum fits)
  stages-high Start u v w there is at sum fits =
      later-right by_issue (later by_start (later by_free by_results)) w (later-left by_start (later by_free by_results) w (via-high t.start (arc Start) u v w (right.start v is ∙ at) is sum fits))
  stages-high Free u v w there is at sum fits =
      later-right by_issue (later by_start (later by_free by_results)) w (later-right by_start (later by_free by_results) w (later-left by_free by_results w (via-high t.free (arc Free) u v w (right.free v is ∙ at) is sum fits)))
  stages-high (Done x) u v w there is at sum fits =
      later-right by_issue (later by_start (later by_free by_results)) w (later-right by_start (later by_free by_results) w (later-right by_free by_results w
      (results-high (λ y. time (At m (Done y))) t (λ y. arc (Done y)) its_writes (row-good b.profile _).results (right.results x v is) x w there (via-high (time (At m (Done x))) (arc (Done x)) u v w at is sum fits))))

  pub stages-low : (h : ℕ) → ((s : Stage) (v : ℕ) → has_stage (row_at b m) s ≡ true → arc s ≡ Some v → height (add (time (At m s)) v) ≤ h) → height (by_stages arc t its_writes) ≤ h
  stages-low h each =
      later-low by_issue (later by_start (later by_free by_results)) h (via-low t.issue (arc Issue) h (λ v is. subst (λ o. height (add o v) ≤ h) (sym (right.issue v is)) (each Issue v refl is)))
      (later-low by_start (later by_free by_results) h (via-low t.start (arc Start) h (λ v is. subst (λ o. height (add o v) ≤ h) (sym (right.start v is)) (each Start v refl is)))
      (later-low by_free by_results h (via-low t.free (arc Free) h (λ v is. subst (λ o. height (add o v) ≤ h) (sym (right.free v is)) (each Free v refl is)))
      (results-low (λ y. time (At m (Done y))) t (λ y. arc (Done y)) its_writes h right.results (λ x v there is. each (Done x) v there is))))

-- WHERE AN ARC HAS NO WAIT, or stands under a test

add-zero : (o : Option ℕ) → add o 0 ≡ o
add-zero None = refl
add-zero (Some t) = ap (λ k. Some k) (omega arith)

add-later : (o p : Option ℕ) (w : ℕ) → add (later o p) w ≡ later (add o w) (add p w)
add-later (Some s) (Some t) w = ap (λ k. Some k) (omega arith)
add-later _ _ w = refl

add-when : (test : Bool) (o : Option ℕ) (w : ℕ) → add (when test o) w ≡ when test (add o w)
add-when true o w = refl
add-when false o w = refl

pub via-if : (test : Bool) (o : Option ℕ) (w : ℕ) → via o (only_if test w) ≡ when test (add o w)
via-if true o w = refl
via-if false o w = refl

pub via-zero : (test : Bool) (o : Option ℕ) → via o (only_if test 0) ≡ when test o
via-zero true o = add-zero o
via-zero false o = refl

-- one before others that are none
pub alone : (o p : Option ℕ) → p ≡ None → later o p ≡ o
alone o p none = ap (later o) none ∙ later-none o

pub alone-zero : (o p : Option ℕ) → p ≡ None → later (add o 0) p ≡ o
alone-zero o p none = alone (add o 0) p none ∙ add-zero o

pub results-none : (t : Times) (ws : List Write) → via_results (λ x. None) t ws ≡ None
results-none t (v ∷ (w ∷ ws)) = refl
results-none t _ = refl

pub results-zero : (test : Reg → Bool) (t : Times) (ws : List Write) → via_results (λ x. only_if (test x) 0) t ws ≡ latest_done test t ws
results-zero test t [] = refl
results-zero test t (v ∷ []) = via-zero (test v.reg) t.first
results-zero test t (v ∷ (w ∷ ws)) = ap (λ o. later o (via t.second (only_if (test w.reg) 0))) (via-zero (test v.reg) t.first) ∙ ap (later (when (test v.reg) t.first)) (via-zero (test w.reg) t.second)

pub results-one : (test : Reg → Bool) (t : Times) (ws : List Write) → via_results (λ x. only_if (test x) 1) t ws ≡ add (latest_done test t ws) 1
results-one test t [] = refl
results-one test t (v ∷ []) = via-if (test v.reg) t.first 1 ∙ sym (add-when (test v.reg) t.first 1)
results-one test t (v ∷ (w ∷ ws)) =
    ap (λ o. later o (via t.second (only_if (test w.reg) 1))) (via-if (test v.reg) t.first 1 ∙ sym (add-when (test v.reg) t.first 1))
    ∙ (ap (later (add (when (test v.reg) t.first) 1)) (via-if (test w.reg) t.second 1 ∙ sym (add-when (test w.reg) t.second 1)) ∙ sym (add-later (when (test v.reg) t.first) (when (test w.reg) t.second) 1))

pub results-latency : (r : Row) (t : Times) (ws : List Write) → via_results (λ x. Some (latency_to r x)) t ws ≡ latest_result r t ws
results-latency r t (v ∷ (w ∷ ws)) = refl
results-latency r t _ = refl

-- WHAT IS GATHERED, part by part

module _ (test : ℕ → Bool) (f : ℕ → Times) where
  pub part : (get : Times → Option ℕ) → get no_times ≡ None → ((s t : Times) → get (later_times s t) ≡ later (get s) (get t)) → (ms : List ℕ) → get (gathered test f ms) ≡ latest (λ m. when (test m) (get (f m))) ms
  part get none joins [] = none
  part get none joins (m ∷ ms) =
      joins (cond {A = Times} (test m) (f m) no_times) (gathered test f ms)
      ∙ (ap (λ o. later o (get (gathered test f ms))) (one (test m)) ∙ ap (λ o. later (when (test m) (get (f m))) o) (part get none joins ms))
    where
      one : (t : Bool) → get (cond {A = Times} t (f m) no_times) ≡ when t (get (f m))
      one true = refl
      one false = none

-- in all numbers that stand so
pub all-high : (test : ℕ → Bool) (f : ℕ → Option ℕ) (m : ℕ) (ms : List ℕ) (w : ℕ) → Among m ms → test m ≡ true → w < height (f m) → w < height (latest (λ k. when (test k) (f k)) ms)
all-high test f m ms w among stands high = latest-high (λ k. when (test k) (f k)) m ms w among (when-high (test m) (f m) w stands high)

pub all-low : (test : ℕ → Bool) (f : ℕ → Option ℕ) (ms : List ℕ) (h : ℕ) → ((m : ℕ) → Among m ms → test m ≡ true → height (f m) ≤ h) → height (latest (λ k. when (test k) (f k)) ms) ≤ h
all-low test f ms h each = latest-low (λ k. when (test k) (f k)) ms h (λ m among. when-low (test m) (f m) h (each m among))

pub all-same : (test : ℕ → Bool) (f f2 : ℕ → Option ℕ) (ms : List ℕ) → ((m : ℕ) → f m ≡ f2 m) → latest (λ m. when (test m) (f m)) ms ≡ latest (λ m. when (test m) (f2 m)) ms
all-same test f f2 ms same = ap (λ g. latest (λ m. when (test m) (g m)) ms) (fun_ext same)

pub none-gathered : (test : ℕ → Bool) (ms : List ℕ) → latest (λ m. when (test m) None) ms ≡ None
none-gathered test ms = height-same (latest (λ m. when (test m) None) ms) None (omega (arith, all-low test (λ m. None) ms 0 (λ m among is. omega arith)))

-- results are right by the times of these alone
pub same-results : (time : Reg → Option ℕ) (s t : Times) (ws : List Write) → s.first ≡ t.first → s.second ≡ t.second → AreResults time t ws → AreResults time s ws
same-results time s t [] one two are = tt
same-results time s t (v ∷ []) one two are = one ∙ are
same-results time s t (v ∷ (w ∷ ws)) one two are = (one ∙ are.0, two ∙ are.1)
