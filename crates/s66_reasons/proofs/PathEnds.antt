-- The rows of a leaf E add up to its longest path, which reaches the bound, and in a faster order no moment of it is sooner.
use Rattle.std.proofs.Common.{ℕ, ◌≡◌, ◌≤◌, ◌<◌, ◌∙◌, ◌+◌, ◌*◌, ◌⊎◌, Bool, true, false, cond, eqb, List, [], ◌∷◌, ◌++◌, length, map, Some, inl, inr, ap, arith, refl, subst, sym, leb-true, le-leb}
use Rattle.std.proofs.Common.{nat_le, unwrap_or, ◌&&◌, ◌||◌}
use Rattle.std.proofs.lemmas.Bool.{and_parts, cases_Bool, or_cases}
use Rattle.s66_isa.specs.{Kind, Reg, every, greatest, held_latency, Write, instr_at, numbers, same_kind, same_reg}
use Rattle.s66_isa.proofs.Lists.{every-each, greatest-le}
use Rattle.s66_isa.proofs.GoodRows.{row-good}
use Rattle.s66_model.specs.{Problem, ResultAt, free_after, issue_of, point, point_of, result_at, row_at, start_of, total_of, IsLegal, is_remaining}
use Rattle.s66_model.proofs.Remaining.{remaining-parts}
use Rattle.s66_moments.specs.{Stage, Issue, Start, Done, Free, Moment, Origin, At, End, has_stage, is_moment, latency_to, own_arc, soonest, time_of, AreSo, Fact, IsNumber, facts_after, use_time}
use Rattle.s66_moments.specs.{Hop as Step, HasOwnArcs, IsRising, most_arcs, moments_of, network, soonest_path, tail, is_left, is_left_from, kind_of_load, next_value, reaches, use_of, shown_by_all}
use Rattle.s66_moments.specs.{premises_first}
use Rattle.s66_moments.proofs.Tails.{all-among, arc-some, own-among, path-tail, tail-reached}
use Rattle.s66_moments.proofs.KnownLines.{IsSound, arcs-own, arcs-rise, arcs-steps, span-tail}
use Rattle.s66_moments.proofs.FoundedLines.{lines-so}
use Rattle.s66_moments.proofs.Steps.{step-so}
use Rattle.s66_moments.proofs.SupposedLines.{after-stands, closed-sound}
use Rattle.s66_moments.proofs.Spans.{height-some}
use Rattle.s66_cert.specs.{Document}
use Rattle.s66_checker.specs.{AreTaken, facts_of, known_of, problem_of, premises_of}
use Rattle.s66_reasons.specs.{Hop, Work, load_end, work_of_load, Reason, arcs, at_end_words, by_words, hop_rows, hops_of, later_words, longest_load_row, pairs_of, path_rows, table_rows, to_end, issue_row}
use Rattle.s66_reasons.specs.{next_rows, AreNoSooner, AreRowsOf, HasNoneSooner, IsAlong, IsLoadShown, IsPathShown, last_number, sum_of}
use Rattle.s66_reasons.proofs.Along.{along, along-high, as-path, end-path, rank-along}

-- ROWS

-- after a row, the last of more
last-more : (r : Reason) (xs ys : List Reason) → (s : Reason) × (last_number (r ∷ (xs ++ ys)) ≡ last_number (s ∷ ys))
last-more r [] ys = (r, refl)
last-more r (x ∷ xs) ys = last-more x xs ys

-- the row of an arc that leads to the end
end-row : (d : Document) (number m : ℕ) (stage : Stage) (to : Moment) (test : Bool) (load r : Reason) → to ≡ End → load.number ≡ number →
    last_number (r ∷ (cond {A = List Reason} test (table_rows d number (At m stage) to) (load ∷ []) ++ [])) ≡ number
end-row d number m stage Origin test load r end is = absurd cc
end-row d number m stage (At n other) test load r end is = absurd cc
end-row d number m stage End true load r end is = refl
end-row d number m stage End false load r end is = is

module _ (d : Document) (rises : IsRising (problem_of d) (arcs d)) where
  abbrev b : Problem
  b = problem_of d

  pub rows-last : (number : ℕ) (e : Moment) (hop : Hop) (hops : List Hop) (r : Reason) (m : ℕ) (stage : Stage) → e ≡ At m stage → IsAlong (arcs d) e (hop ∷ hops) End →
      last_number (r ∷ path_rows d number e (hop ∷ hops)) ≡ number + sum_of (hop ∷ hops)
  rows-last number e hop [] r m stage is leads =
      let to : ℕ = number + hop.wait in
      let test : Bool = reaches hop.wait (network b (known_of d).before (At m stage) hop.to) in
      let one : last_number (r ∷ (hop_rows d to (At m stage) hop ++ [])) ≡ to = end-row d to m stage hop.to test (longest_load_row d to (At m stage) hop) r leads.1 refl in
      omega (arith, subst (λ x. last_number (r ∷ (hop_rows d to x hop ++ [])) ≡ to) (sym is) one)
  rows-last number e hop (next ∷ hops) r m stage is leads =
      let to : ℕ = number + hop.wait in
      let (s, last) = last-more r (hop_rows d to e hop) (path_rows d to hop.to (next ∷ hops)) in
      elim ((rises.1 e hop.to (arc-some (arcs d e hop.to) hop.wait leads.0).0).0) [
        | inl end ↦
            let (steps, path, takes) = as-path d rises next.to hops End leads.1.1 in
            let step : Step = record { wait = next.wait; to = next.to } in
            absurd (omega (arith, rank-along d rises hop.to (step ∷ steps) End (leads.1.0, path), ap rises.0 end))
        | inr among ↦
            let (k, other, at, in_block, has) = all-among b hop.to (numbers b.block) among in
            omega (arith, last, rows-last to hop.to next hops s k other at leads.1)
      ]

-- of each arc one row, or none
one-or-none : (number : ℕ) (test : Bool) (r : Reason) → r.number ≡ number →
    (cond {A = List Reason} test [] (r ∷ []) ≡ []) ⊎ ((s : Reason) × (s.number ≡ number) × (cond {A = List Reason} test [] (r ∷ []) ≡ s ∷ []))
one-or-none number true r is = inl refl
one-or-none number false r is = inr (r, is, refl)

table-one : (d : Document) (number : ℕ) (e f : Moment) → (table_rows d number e f ≡ []) ⊎ ((r : Reason) × (r.number ≡ number) × (table_rows d number e f ≡ r ∷ []))
table-one d number Origin f = inl refl
table-one d number (At m e) Origin = inl refl
table-one d number (At m e) (At n f) =
    one-or-none number (eqb m n) (record { number = number; words = later_words d m n e f ++ by_words (pairs_of d m n) }) refl
table-one d number (At m e) End = inr (record { number = number; words = at_end_words d m e }, refl, refl)
table-one d number End f = inl refl

one-of : (number : ℕ) (test : Bool) (table rest : List Reason) (load : Reason) → ((table ≡ []) ⊎ ((r : Reason) × (r.number ≡ number) × (table ≡ r ∷ []))) → load.number ≡ number →
    (cond {A = List Reason} test table (load ∷ []) ++ rest ≡ rest) ⊎ ((r : Reason) × (r.number ≡ number) × (cond {A = List Reason} test table (load ∷ []) ++ rest ≡ r ∷ rest))
one-of number true table rest load (inl none) is = inl (ap (λ rows. rows ++ rest) none)
one-of number true table rest load (inr (r, at, one)) is = inr (r, at, ap (λ rows. rows ++ rest) one)
one-of number false table rest load either is = inr (load, is, refl)

pub rows-are : (d : Document) (number : ℕ) (e : Moment) (hops : List Hop) → AreRowsOf number hops (path_rows d number e hops)
rows-are d number e [] = refl
rows-are d number e (hop ∷ hops) =
    let to : ℕ = number + hop.wait in
    let rest : List Reason = path_rows d to hop.to hops in
    let test : Bool = reaches hop.wait (network (problem_of d) (known_of d).before e hop.to) in
    (rest, one-of to test (table_rows d to e hop.to) rest (longest_load_row d to e hop) (table-one d to e hop.to) refl, rows-are d to hop.to hops)

-- HOW SOON MOMENTS ARE where nothing has been placed

none-greatest : {X : Type 0} (xs : List X) → greatest (λ (x : X). 0) xs ≡ 0
none-greatest [] = refl
none-greatest (x ∷ xs) = omega (arith, none-greatest xs)

first-issue : (b : Problem) (n : ℕ) → (point_of b [] n).issue ≡ 0
unfolding point issue_of
first-issue b n = refl

first-start : (b : Problem) (n : ℕ) → (point_of b [] n).start ≡ 0
unfolding point start_of issue_of
first-start b n = omega (arith, none-greatest {X = Reg} (row_at b n).reads)

results-done : (start : ℕ) (x : Reg) (ws : List Write) → start ≡ 0 →
    greatest (λ (r : ResultAt). cond {A = ℕ} (same_reg r.reg x) r.time 0) (map (result_at [] start) ws) ≤ greatest (λ (w : Write). cond {A = ℕ} (same_reg w.reg x) w.latency 0) ws
results-done start x [] zero = omega arith
results-done start x (w ∷ ws) zero =
    elim (cases_Bool (same_reg w.reg x)) [
      | inl is ↦ rw is (omega (arith, zero, results-done start x ws zero))
      | inr isnt ↦ rw isnt (omega (arith, zero, results-done start x ws zero))
    ]

results-held : (start : ℕ) (ws : List Write) → start ≡ 0 →
    greatest (λ (r : ResultAt). cond {A = ℕ} r.held r.time 0) (map (result_at [] start) ws) ≤ greatest held_latency ws
results-held start [] zero = omega arith
results-held start (w ∷ ws) zero =
    elim (cases_Bool w.held) [
      | inl is ↦ rw is (omega (arith, zero, results-held start ws zero))
      | inr isnt ↦ rw isnt (omega (arith, zero, results-held start ws zero))
    ]

free-first : (start hold : ℕ) (ws : List Write) → start ≡ 0 → (ws ≡ []) ⊎ (hold ≡ greatest held_latency ws) → free_after start hold (map (result_at [] start) ws) ≤ hold + 1
free-first start hold [] zero unit = omega (arith, zero)
free-first start hold (w ∷ ws) zero (inl none) = absurd cc
free-first start hold (w ∷ ws) zero (inr is) = omega (arith, is, results-held start (w ∷ ws) zero)

first-done : (b : Problem) (n : ℕ) (x : Reg) → soonest b [] n (Done x) ≤ latency_to (row_at b n) x
unfolding point
first-done b n x = results-done (point_of b [] n).start x (row_at b n).writes (first-start b n)

first-free : (b : Problem) (n : ℕ) → soonest b [] n Free ≤ (row_at b n).hold + 1
unfolding point
first-free b n =
    free-first (point_of b [] n).start (row_at b n).hold (row_at b n).writes (first-start b n) (row-good b.profile (instr_at b.block n)).unit

-- A LOAD takes its wait at least

end-high : (w : Work) (after wait count : ℕ) → wait ≤ load_end w after wait count
end-high w after wait count =
    elim (cases_Bool (eqb count 1)) [
      | inl one ↦ rw one (omega arith)
      | inr more ↦ elim (cases_Bool (eqb w.total (count * w.most))) [
        | inl same ↦ rw (more, same) (omega arith)
        | inr mixed ↦ rw (more, mixed) (omega arith)
      ]
    ]

abbrev IsLate : Document → List ℕ → (after time n : ℕ) → Type 0
IsLate d at after time n =
    (stage : Stage) × (t : ℕ) × ((stage ≡ Issue) ⊎ (stage ≡ Start)) ×
    (after ≤ soonest (problem_of d) at n stage) × (to_end d (At n stage) ≡ Some t) ×
    ((row_at (problem_of d) n).hold + 1 + d.bound ≤ after + time + t)

-- A DOCUMENT whose fact lines are taken

module _ (d : Document) (taken : AreTaken d) where
  abbrev b2 : Problem
  b2 = problem_of d

  abbrev facts : List Fact
  facts = facts_after [] (shown_by_all b2 (premises_first b2) (facts_of d))

  sound : IsSound b2 facts (known_of d)
  sound = closed-sound b2 d.bound facts (premises_of d) (after-stands b2 d.bound (facts_of d) taken.each).1 taken.closed

  pub rises-of : IsRising b2 (arcs d)
  rises-of = arcs-rise b2 facts (known_of d) sound

  own : HasOwnArcs b2 (arcs d)
  own = arcs-own b2 facts (known_of d) sound

  abbrev T : Moment → ℕ
  T e = tail b2 (arcs d) e

  -- what follows an arc follows its moment as much later
  arc-tail : (e f : Moment) (v : ℕ) → arcs d e f ≡ Some v → v + T f ≤ T e
  arc-tail e f v is =
      let (hops, g, path, takes, ends) = tail-reached b2 (arcs d) (most_arcs b2) f in
      let step : Step = record { wait = v; to = f } in
      omega (arith, takes, path-tail b2 (arcs d) rises-of e (step ∷ hops) g (is, path))

  number-moment : (n : ℕ) → IsNumber b2 n → (stage : Stage) → has_stage (row_at b2 n) stage ≡ true → is_moment b2 (At n stage) ≡ true
  number-moment n is_n stage has = rw (le-leb 1 n is_n.0, le-leb n (length b2.block) is_n.1, has) refl

  module _ (n : ℕ) (is_n : IsNumber b2 n) where
    stage-tail : (e f : Stage) (w : ℕ) → has_stage (row_at b2 n) e ≡ true → has_stage (row_at b2 n) f ≡ true → own_arc (row_at b2 n) e f ≡ Some w → w + T (At n f) ≤ T (At n e)
    stage-tail e f w has_e has_f is =
        let (v, there, le) = own n e f w (number-moment n is_n e has_e) (number-moment n is_n f has_f) is in
        omega (arith, le, arc-tail (At n e) (At n f) v there)

    -- by its own arcs no moment of n is sooner than if it came first
    from-issue : (stage : Stage) → has_stage (row_at b2 n) stage ≡ true → soonest b2 [] n stage + T (At n stage) ≤ T (At n Issue)
    from-issue Issue has = omega (arith, first-issue b2 n)
    from-issue Start has = omega (arith, first-start b2 n, stage-tail Issue Start 0 refl refl refl)
    from-issue (Done x) has = omega (arith, first-done b2 n x, stage-tail Issue Start 0 refl refl refl, stage-tail Start (Done x) (latency_to (row_at b2 n) x) refl has refl)
    from-issue Free has = omega (arith, first-free b2 n, stage-tail Issue Start 0 refl refl refl, stage-tail Start Free ((row_at b2 n).hold + 1) refl refl refl)

    value-issue : next_value b2 (known_of d) [] n ≤ T (At n Issue)
    value-issue =
        greatest-le (soonest_path b2 (arcs d) []) (T (At n Issue)) (moments_of b2 n) (λ e among.
        let (m, stage, is, number, has) = own-among b2 e n [] among in
        let of_n : m ≡ n = elim number [
          | inl here ↦ here
          | inr past ↦ absurd past
        ] in
        let at : e ≡ At n stage = is ∙ ap (λ k. At k stage) of_n in
        omega (arith, ap (soonest_path b2 (arcs d) []) at, from-issue stage (subst (λ k. has_stage (row_at b2 k) stage ≡ true) of_n has)))

    end-is : to_end d (At n Issue) ≡ Some (T (At n Issue))
    end-is = span-tail b2 facts (known_of d) sound (At n Issue) (number-moment n is_n Issue refl)

    -- THE PATH

    whole : IsAlong (arcs d) (At n Issue) (hops_of d n) End × (sum_of (hops_of d n) ≡ T (At n Issue))
    whole =
        let left : unwrap_or (to_end d (At n Issue)) 0 ≡ T (At n Issue) = (arc-some (to_end d (At n Issue)) (T (At n Issue)) end-is).1 in
        let (path, leads, takes) = end-path d rises-of (At n Issue) (T (At n Issue)) end-is in
        let (hops, low) = along d rises-of (most_arcs b2) (unwrap_or (to_end d (At n Issue)) 0) (At n Issue) path leads (omega (arith, left, takes)) (omega arith) in
        let high = along-high d rises-of (At n Issue) (hops_of d n) hops in
        (hops, omega (arith, left, low, high, height-some (to_end d (At n Issue)) (T (At n Issue)) end-is))

    rows-sum : (hops : List Hop) → IsAlong (arcs d) (At n Issue) hops End → last_number (issue_row d n ∷ path_rows d 0 (At n Issue) hops) ≡ sum_of hops
    rows-sum [] leads = absurd cc
    rows-sum (hop ∷ hops) leads = omega (arith, rows-last d rises-of 0 (At n Issue) hop hops (issue_row d n) n Issue refl leads)

    pub path-shown : (bound : ℕ) → bound ≤ next_value b2 (known_of d) [] n → IsPathShown d bound n
    path-shown bound reaches =
        let (hops, sum) = whole in
        let adds : last_number (next_rows d n) ≡ sum_of (hops_of d n) = rows-sum (hops_of d n) hops in
        record {
          leads = hops;
          rows = (issue_row d n, path_rows d 0 (At n Issue) (hops_of d n), refl, refl, rows-are d 0 (At n Issue) (hops_of d n));
          adds_up = adds;
          longest = end-is ∙ ap (λ k. Some k) (sym sum);
          reaches = omega (arith, reaches, value-issue, sum, adds);
        }

    -- IN A FASTER ORDER

    module _ (order : List ℕ) (legal : IsLegal b2.block order) (less : total_of b2 order < d.bound) where
      so : AreSo b2 order facts
      so = lines-so b2 d.bound [] (shown_by_all b2 (premises_first b2) (facts_of d)) (after-stands b2 d.bound (facts_of d) taken.each).0 order legal less tt

      none-sooner : (number : ℕ) (e : Moment) (hops : List Hop) (f : Moment) → number ≤ time_of b2 order e → IsAlong (arcs d) e hops f → AreNoSooner (time_of b2 order) number hops
      none-sooner number e [] f le leads = tt
      none-sooner number e (hop ∷ hops) f le leads =
          let step = step-so b2 facts order legal so e hop.wait hop.to (arcs-steps b2 facts (known_of d) sound e hop.to hop.wait leads.0) in
          let there : number + hop.wait ≤ time_of b2 order hop.to = omega (arith, le, step) in
          (there, none-sooner (number + hop.wait) hop.to hops f there leads.1)

    pub has-none_sooner : HasNoneSooner d n
    has-none_sooner order legal less = none-sooner order legal less 0 (At n Issue) (hops_of d n) End (omega arith) whole.0

  -- A LOAD

  -- from its issue or its start on, after a prefix
  stage-late : (at : List ℕ) (after time n : ℕ) (stage : Stage) → ((stage ≡ Issue) ⊎ (stage ≡ Start)) → IsNumber b2 n → has_stage (row_at b2 n) stage ≡ true →
      is_left_from b2 (known_of d) at d.bound after time stage n ≡ true → IsLate d at after time n
  stage-late at after time n stage which is_n has h =
      let (soon, late) = and_parts (nat_le after (soonest b2 at n stage)) (nat_le ((row_at b2 n).hold + 1 + d.bound) (after + time + T (At n stage))) h in (
        stage,
        T (At n stage),
        which,
        leb-true after (soonest b2 at n stage) soon,
        span-tail b2 facts (known_of d) sound (At n stage) (number-moment n is_n stage has),
        leb-true ((row_at b2 n).hold + 1 + d.bound) (after + time + T (At n stage)) late,
      )

  one-late : (at : List ℕ) (kind : Kind) (after time n : ℕ) → is_left b2 (known_of d) at kind d.bound after time n ≡ true → IsLate d at after time n
  one-late at kind after time n h =
      let issues : Bool = is_left_from b2 (known_of d) at d.bound after time Issue n in
      let starts : Bool = is_left_from b2 (known_of d) at d.bound after time Start n in
      let (front, from) = and_parts (is_remaining b2.block at n && same_kind (row_at b2 n).kind kind) (issues || starts) h in
      let (stays, same) = and_parts (is_remaining b2.block at n) (same_kind (row_at b2 n).kind kind) front in
      let (low, high, new) = remaining-parts b2.block at n stays in
      elim (or_cases issues starts from) [
        | inl issue ↦ stage-late at after time n Issue (inl refl) (low, high) refl issue
        | inr start ↦ stage-late at after time n Start (inr refl) (low, high) refl start
      ]

  pub load-shown : (at : List ℕ) (bound after : ℕ) (ns : List ℕ) →
      every (is_left b2 (known_of d) at (kind_of_load b2 ns) d.bound after (use_time b2 (kind_of_load b2 ns) (map (use_of b2) ns))) ns ≡ true → bound ≤ d.bound → IsLoadShown d at bound after ns
  load-shown at bound after ns all le =
      let kind : Kind = kind_of_load b2 ns in
      let time : ℕ = use_time b2 kind (map (use_of b2) ns) in
      record {
        each = λ n among. one-late at kind after time n (every-each (is_left b2 (known_of d) at kind d.bound after time) n ns all among);
        reaches = omega (arith, le, end-high (work_of_load b2 ns) after d.bound (length ns));
      }
