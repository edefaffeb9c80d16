-- Times that are right if those of the others are: they stay so while another's times change or more is known, and all are right once all are so.
use Rattle.std.proofs.Common.{ℕ, zero, suc, ◌-◌, ◌≤◌, ◌≡◌, ◌≢◌, ◌⊎◌, not, ◌||◌, ◌&&◌, ◌==◌, Bool, true, false, true≢false, List, [], ◌∷◌, ◌++◌, length, set, refl, sym, ap, arith, inl, inr, ◌∙◌, subst}
use Rattle.std.proofs.Common.{Option, None, eqb-true}
use Rattle.std.proofs.lemmas.Bool.{and_from, and_parts, and_left, and_right, or_cases, or_parts, or_left, or_right, not-true, cases_eq, cases_Bool}
use Rattle.std.proofs.Math.Bool.{and_comm}
use Rattle.std.proofs.Math.Path.{fun_ext}
use Rattle.s66_isa.specs.{Write, Set, has, numbers_in}
use Rattle.s66_model.specs.{Problem, row_at}
use Rattle.s66_moments.specs.{Stage, Issue, Start, Done, Moment, At, KnownArc, Pair, only_if, IsNumber, IsTransitive, with_pair, same_moment, Known, later, latest, with_line}
use Rattle.s66_facts.specs.{Direction, Forward, Backward, Times, before_in, Ground, known_of, IsAcyclic, source, can_begin, sooner, rank, arc_start, arc_end, span_along, add, when, times_at}
use Rattle.s66_facts.specs.{time_along, by_arc, by_loads, by_all, all_moments, times_of, AreResults, AreTimes, AreAll, IsStep, AreSettled, keeps}
use Rattle.s66_facts.proofs.Latest.{later-none}
use Rattle.s66_facts.proofs.Covered.{IsNearBy, all-near, sooner-number}
use Rattle.s66_facts.proofs.HeadLaw.{heads-are}
use Rattle.s66_facts.proofs.TailLaw.{tails-are}
use Rattle.s66_facts.proofs.Told.{set-same, set-other, rank-less, rank-range}

-- WHAT IS GATHERED is the same if its parts are

latest-more : (f : KnownArc → Option ℕ) (loads : List KnownArc) (last : KnownArc) → f last ≡ None → latest f (loads ++ last ∷ []) ≡ latest f loads
latest-more f [] last none = later-none (f last) ∙ none
latest-more f (l ∷ ls) last none = ap (later (f l)) (latest-more f ls last none)

-- ONE STEP: all the times of k, by what comes sooner by these marks, and by loads

abbrev step_of : Direction → Problem → List Set → List KnownArc → Moment → List Times → ℕ → Times
step_of d b marks loads e times k = times_of d (record { problem = b; marks = marks; loads = loads }) (λ m. sooner d (before_in marks) m k) e times k

step-by : (d : Direction) (b : Problem) (marks marks2 : List Set) (loads loads2 : List KnownArc) (e : Moment) (times : List Times) (k : ℕ) →
    by_all d b (λ m. sooner d (before_in marks) m k) times k ≡ by_all d b (λ m. sooner d (before_in marks2) m k) times k →
    ((s : Stage) → (s ≡ Issue) ⊎ (s ≡ Start) → by_loads d loads times e (At k s) ≡ by_loads d loads2 times e (At k s)) →
    step_of d b marks loads e times k ≡ step_of d b marks2 loads2 e times k
step-by d b marks marks2 loads loads2 e times k gathers leads =
    let others2 : Times = by_all d b (λ m. sooner d (before_in marks2) m k) times k in
    ap (λ t. all_moments d b e k t (by_loads d loads times e (At k Issue)) (by_loads d loads times e (At k Start))) gathers
    ∙ (ap (λ o. all_moments d b e k others2 o (by_loads d loads times e (At k Start))) (leads Issue (inl refl)) ∙ ap (all_moments d b e k others2 (by_loads d loads2 times e (At k Issue))) (leads Start (inr refl)))

-- by all of the number that comes sooner, and by loads
pub times-are : (d : Direction) (g : Ground) → IsAcyclic g → (e : Moment) → can_begin d e ≡ true → (times : List Times) (n : ℕ) → IsNumber g.problem n → (near : ℕ → Bool) → IsNearBy g.problem (sooner d (before_in g.marks)) near n →
    ((m : ℕ) → IsNumber g.problem m → sooner d (before_in g.marks) m n ≡ true → AreTimes g.problem (span_along d g e) m (times_at times m)) → AreTimes g.problem (span_along d g e) n (times_of d g near e times n)
times-are Forward g ordered e begins times n is_n near is_near known = heads-are g ordered e begins times n is_n near is_near known
times-are Backward g ordered e begins times n is_n near is_near known = tails-are g ordered e begins times n is_n near is_near known

-- A NUMBER SETTLED

apart : (d : Direction) (g : Ground) → IsAcyclic g → (n : ℕ) → IsNumber g.problem n → sooner d (before_in g.marks) n n ≡ false
apart Forward g ordered n is_n = ordered.no_ring n is_n
apart Backward g ordered n is_n = ordered.no_ring n is_n

module _ (d : Direction) (g : Ground) (ordered : IsAcyclic g) (e : Moment) (times : List Times) (settled new : Set) (n : ℕ) (is_n : IsNumber g.problem n) (room : n ≤ length times) (time : Times) (right : IsStep d g e times n time) where
  abbrev sooner_in : ℕ → ℕ → Bool
  sooner_in = sooner d (before_in g.marks)

  abbrev Are : ℕ → Times → Type 0
  Are = AreTimes g.problem (span_along d g e)

  -- its times are the same
  pub step-kept : time ≡ times_at times n → ((m : ℕ) → has m (numbers_in new) ≡ (m == n || has m (numbers_in settled))) → AreSettled d g e times settled → AreSettled d g e times new
  step-kept same marked are k is_k now =
      elim (or_cases (k == n) (has k (numbers_in settled)) (sym (marked k) ∙ now)) [
        | inl here ↦ subst (λ i. IsStep d g e times i (times_at times i)) (sym (eqb-true k n here)) (subst (IsStep d g e times n) same right)
        | inr old ↦ are k is_k old
      ]

  -- they are others, and so is not settled what waits for them
  module _ (touched rest : Set) (less : (m : ℕ) → has m (numbers_in rest) ≡ (has m (numbers_in settled) && not (has m (numbers_in touched)))) (marked : (m : ℕ) → has m (numbers_in new) ≡ (m == n || has m (numbers_in rest))) where
    was-settled : (k : ℕ) → IsNumber g.problem k → has k (numbers_in rest) ≡ true → (has k (numbers_in settled) ≡ true) × (has k (numbers_in touched) ≡ false)
    was-settled k is_k now =
        let (old, off) = and_parts (has k (numbers_in settled)) (not (has k (numbers_in touched))) (sym (less k) ∙ now) in
        (old, not-true (has k (numbers_in touched)) off)

    or-other : (k : ℕ) → k ≢ n → has k (numbers_in new) ≡ true → has k (numbers_in rest) ≡ true
    or-other k differ now =
        elim (or_cases (k == n) (has k (numbers_in rest)) (sym (marked k) ∙ now)) [
          | inl here ↦ absurd (differ (eqb-true k n here))
          | inr old ↦ old
        ]

    -- the times of another number
    others : (m : ℕ) → 1 ≤ m → m ≢ n → times_at times m ≡ times_at (set times (n - 1) time) m
    others m one differ = sym (set-other times n m time is_n.0 one differ)

    pub step-settled : ((m : ℕ) → IsNumber g.problem m → sooner_in n m ≡ true → has m (numbers_in touched) ≡ true) → AreSettled d g e times settled → AreSettled d g e (set times (n - 1) time) new
    step-settled after are k is_k now =
        elim (cases_eq k n) [
          | inl same ↦
              subst (λ i. IsStep d g e (set times (n - 1) time) i (times_at (set times (n - 1) time) i)) (sym same) (λ known.
              subst (Are n) (sym (set-same times n time is_n.0 room)) (right (λ m is_m first. old-known n (apart d g ordered n is_n) m is_m first (known m is_m first))))
          | inr differ ↦
              let (old, off) = was-settled k is_k (or-other k differ now) in
              λ known.
              subst (Are k) (others k is_k.0 differ) (are k is_k old (λ m is_m first. old-known k (not-first k is_k off) m is_m first (known m is_m first)))
        ]
      where
        old-known : (k : ℕ) → sooner_in n k ≡ false → (m : ℕ) → IsNumber g.problem m → sooner_in m k ≡ true → Are m (times_at (set times (n - 1) time) m) → Are m (times_at times m)
        old-known k off m is_m first are = subst (Are m) (sym (others m is_m.0 (λ same. true≢false (sym first ∙ (ap (λ i. sooner_in i k) same ∙ off))))) are

        not-first : (k : ℕ) → IsNumber g.problem k → has k (numbers_in touched) ≡ false → sooner_in n k ≡ false
        not-first k is_k off =
            elim (cases_Bool (sooner_in n k)) [
              | inl first ↦ absurd (true≢false (sym (after k is_k first) ∙ off))
              | inr none ↦ none
            ]

-- WHAT IS MARKED stays so, but for what waits for others

pub still-marked : (settled touched rest new : Set) (n : ℕ) → ((m : ℕ) → has m (numbers_in rest) ≡ (has m (numbers_in settled) && not (has m (numbers_in touched)))) → ((m : ℕ) → has m (numbers_in new) ≡ (m == n || has m (numbers_in rest))) →
    (k : ℕ) → has k (numbers_in settled) ≡ true → has k (numbers_in touched) ≡ false → has k (numbers_in new) ≡ true
still-marked settled touched rest new n less marked k now off =
    marked k ∙ or_right (k == n) (has k (numbers_in rest)) (less k ∙ and_from (has k (numbers_in settled)) (not (has k (numbers_in touched))) now (ap not off))

-- nothing is asked for that isn't so
pub none-asked : (first settled : Bool) → (first ≡ true → settled ≡ true) → settled ≡ false → first ≡ false
none-asked false settled asks off = refl
none-asked true settled asks off = absurd (true≢false (sym (asks refl) ∙ off))

-- ALL SETTLED

pub all-settled : (d : Direction) (g : Ground) → IsAcyclic g → (e : Moment) (times : List Times) → ((n : ℕ) → IsNumber g.problem n → IsStep d g e times n (times_at times n)) → AreAll d g e times
all-settled d g ordered e times good n is_n = up-to (rank d g n) n is_n (omega arith)
  where
    up-to : (h n : ℕ) → IsNumber g.problem n → rank d g n ≤ h → AreTimes g.problem (span_along d g e) n (times_at times n)
    up-to zero n is_n le = absurd (omega (arith, le, (rank-range g ordered d n is_n).0))
    up-to (suc h) n is_n le = good n is_n (λ m is_m first. up-to h m is_m (omega (arith, le, rank-less g ordered d m n is_m is_n first)))

-- AS GOOD are two that are the same times

as-good : (b : Problem) (time other : Moment → Option ℕ) (n : ℕ) (s t : Times) → AreTimes b time n s → AreTimes b time n t → AreTimes b other n t → AreTimes b other n s
as-good b time other n s t mine its are =
    record {
      issue = mine.issue ∙ (sym its.issue ∙ are.issue);
      start = mine.start ∙ (sym its.start ∙ are.start);
      free = mine.free ∙ (sym its.free ∙ are.free);
      results = results (row_at b n).writes mine.results its.results are.results;
    }
  where
    results : (ws : List Write) → AreResults (λ x. time (At n (Done x))) s ws → AreResults (λ x. time (At n (Done x))) t ws → AreResults (λ x. other (At n (Done x))) t ws → AreResults (λ x. other (At n (Done x))) s ws
    results [] p q r = tt
    results (v ∷ []) p q r = p ∙ (sym q ∙ r)
    results (v ∷ (w ∷ ws)) p q r = (p.0 ∙ (sym q.0 ∙ r.0), p.1 ∙ (sym q.1 ∙ r.1))

pub or-no : (x y : Bool) → y ≡ false → (x || y) ≡ x
or-no true y off = refl
or-no false y off = off

pub or-yes : (x y : Bool) → x ≡ true → (x || y) ≡ x
or-yes x y on = or_left x y on ∙ sym on

-- A PAIR MORE leaves what stands before a number as it is

module _ (b : Problem) (before : ℕ → ℕ → Bool) (transitive : IsTransitive b before) (is : (m n : ℕ) → before m n ≡ true → IsNumber b m) where
  pair-kept : (m n k : ℕ) → IsNumber b m → IsNumber b k → keeps before m n k ≡ true → (j : ℕ) → with_pair before m n j k ≡ before j k
  pair-kept m n k is_m is_k keep j =
      elim (or_cases (before m k) (not (k == n || before n k)) keep) [
        | inl first ↦
            elim (cases_Bool (j == m || before j m)) [
              | inl to_m ↦ or-yes (before j k) ((j == m || before j m) && (k == n || before n k)) (elim (or_cases (j == m) (before j m) to_m) [
                | inl here ↦ ap (λ i. before i k) (eqb-true j m here) ∙ first
                | inr past ↦ transitive j m k (is j m past) is_m is_k past first
              ])
              | inr off ↦ or-no (before j k) ((j == m || before j m) && (k == n || before n k)) (and_left (j == m || before j m) (k == n || before n k) off)
            ]
        | inr off ↦ or-no (before j k) ((j == m || before j m) && (k == n || before n k)) (and_right (j == m || before j m) (k == n || before n k) (not-true (k == n || before n k) off))
      ]

-- MORE KNOWN, by a graph of the same block

module _ (d : Direction) (g g2 : Ground) (ordered : IsAcyclic g) (ordered2 : IsAcyclic g2) (problem : g2.problem ≡ g.problem) (e : Moment) (begins : can_begin d e ≡ true) (times : List Times) (all : AreAll d g e times) (settled : Set) where
  abbrev again : Ground
  again = record { problem = g.problem; marks = g2.marks; loads = g2.loads }

  ordered-again : IsAcyclic again
  ordered-again = subst (λ b. IsAcyclic (record { problem = b; marks = g2.marks; loads = g2.loads })) problem ordered2

  -- what one step gives is the same
  same-steps : ((k : ℕ) → IsNumber g.problem k → has k (numbers_in settled) ≡ true → step_of d g.problem g.marks g.loads e times k ≡ step_of d g.problem g2.marks g2.loads e times k) → AreSettled d g2 e times settled
  same-steps same =
      subst (λ b. AreSettled d (record { problem = b; marks = g2.marks; loads = g2.loads }) e times settled) (sym problem) (λ k is_k now known.
      as-good g.problem (span_along d g e) (span_along d again e) k (times_at times k) (step_of d g.problem g2.marks g2.loads e times k) (all k is_k)
      (subst (AreTimes g.problem (span_along d g e) k) (same k is_k now)
      (times-are d g ordered e begins times k is_k (λ m. sooner d (before_in g.marks) m k) (all-near g.problem (sooner d (before_in g.marks)) k) (λ m is_m first. all m is_m)))
      (times-are d again ordered-again e begins times k is_k (λ m. sooner d (before_in g2.marks) m k) (all-near g.problem (sooner d (before_in g2.marks)) k) known))

  -- a pair more
  module _ (m n : ℕ) (is_m : IsNumber g.problem m) (is_n : IsNumber g.problem n) (known : known_of g2 ≡ with_line (known_of g) (Pair m n)) where
    abbrev before : ℕ → ℕ → Bool
    before = before_in g.marks

    loads-same : g.loads ≡ g2.loads
    loads-same = sym (ap (λ (k : Known). k.loads) known)

    -- in the direction
    abbrev pub Keeps : Direction → ℕ → Type 0
    Keeps Forward k = keeps before m n k ≡ true
    Keeps Backward k = keeps (λ i j. before j i) n m k ≡ true

    kept : (d : Direction) (k : ℕ) → IsNumber g.problem k → Keeps d k → (j : ℕ) → sooner d before j k ≡ sooner d (before_in g2.marks) j k
    kept Forward k is_k keep j =
        sym (ap (λ (known : Known). known.before j k) known ∙ pair-kept g.problem before ordered.transitive (sooner-number Forward g ordered) m n k is_m is_k keep j)
    kept Backward k is_k keep j =
        sym (ap (λ (known : Known). known.before k j) known
        ∙ (ap (λ t. before k j || t) (and_comm (k == m || before k m) (j == n || before n j))
        ∙ pair-kept g.problem (λ i j. before j i) (λ i j k is_i is_j is_k first then. ordered.transitive k j i is_k is_j is_i then first) (sooner-number Backward g ordered) n m k is_n is_k keep j))

    pub settled-with_pair : ((k : ℕ) → IsNumber g.problem k → has k (numbers_in settled) ≡ true → Keeps d k) → AreSettled d g2 e times settled
    settled-with_pair keeps =
        same-steps (λ k is_k now.
        step-by d g.problem g.marks g2.marks g.loads g2.loads e times k
        (ap (λ test. by_all d g.problem test times k) (fun_ext (kept d k is_k (keeps k is_k now))))
        (λ s which. ap (λ ls. by_loads d ls times e (At k s)) loads-same))

  -- an arc of a load more
  module _ (last : KnownArc) (marks : g2.marks ≡ g.marks) (loads : g2.loads ≡ g.loads ++ last ∷ []) where
    its-stage : (h : Moment) (k : ℕ) → (same_moment h (At k Issue) || same_moment h (At k Start)) ≡ false → (s : Stage) → (s ≡ Issue) ⊎ (s ≡ Start) → same_moment h (At k s) ≡ false
    its-stage h k off s which =
        let (issue, start) = or_parts (same_moment h (At k Issue)) (same_moment h (At k Start)) off in
        elim which [
          | inl is ↦ ap (λ i. same_moment h (At k i)) is ∙ issue
          | inr is ↦ ap (λ i. same_moment h (At k i)) is ∙ start
        ]

    pub settled-with_load : ((k : ℕ) → IsNumber g.problem k → has k (numbers_in settled) ≡ true → (same_moment (arc_end d last) (At k Issue) || same_moment (arc_end d last) (At k Start)) ≡ false) → AreSettled d g2 e times settled
    settled-with_load others =
        same-steps (λ k is_k now.
        step-by d g.problem g.marks g2.marks g.loads g2.loads e times k (ap (λ ms. by_all d g.problem (λ m. sooner d (before_in ms) m k) times k) (sym marks)) (λ s which.
        sym (ap (λ ls. by_loads d ls times e (At k s)) loads
        ∙ latest-more (by_arc d time (At k s)) g.loads last (ap (λ t. when t (add (time (arc_start d last)) last.wait)) (its-stage (arc_end d last) k (others k is_k now) s which)))))
      where
        time : Moment → Option ℕ
        time = time_along d times (only_if (same_moment e (source d)) 0)
