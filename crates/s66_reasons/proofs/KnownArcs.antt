-- The arcs by all that is known are those of the table with the loads that fact lines leave known.
use Rattle.std.proofs.Common.{ℕ, ◌≡◌, ◌∙◌, true, true≢false, List, [], ◌∷◌, ◌++◌, Option, None, Some, ap, ap₂, append_assoc, arith, inl, inr, max, refl, sym, unwrap_or, ◌&&◌, append-nil}
use Rattle.std.proofs.lemmas.Bool.{and_parts, cases_Bool}
use Rattle.s66_model.specs.{Problem}
use Rattle.s66_moments.specs.{Moment, Pair, Load, FactStep, KnownArc, LoadLine, Network, network, same_moment, with_arc, Known, with_loads as known_with, Supposition, Premises, are_steps_taken}
use Rattle.s66_moments.specs.{is_step_taken, premises_after, premises_first, with_step}
use Rattle.s66_moments.specs.declared.fact_line.FactStep.TheVariants.{Fact, Suppose, Refuted}
use Rattle.s66_moments.proofs.MoreArcs.{same_moment-true}
use Rattle.s66_cert.specs.{Document}
use Rattle.s66_checker.specs.{AreTaken, facts_of, known_of, problem_of, premises_of}
use Rattle.s66_reasons.specs.{to_show, arcs, each_left, load_left, loads_left, to_show_after, with_load, with_loads}

-- WHAT IS TO BE SHOWN behind a line

pub to_show-after : (premises : Premises) (step : FactStep) → to_show_after (to_show premises) step ≡ to_show (with_step premises step)
to_show-after premises (Fact line) = refl
to_show-after premises (Suppose m n) = refl
to_show-after premises Refuted = ended premises.known premises.supposed
  where
    ended : (known : Known) (supposed : Option Supposition) → None ≡ to_show (with_step (record { known = known; supposed = supposed }) Refuted)
    ended known None = refl
    ended known (Some s) = refl

-- LOADS

abbrev arc_of : LoadLine → KnownArc
arc_of line = record { from = line.from; wait = line.wait; to = line.to }

abbrev loads_in : List (Option LoadLine) → List KnownArc
loads_in [] = []
loads_in (None ∷ loads) = loads_in loads
loads_in (Some line ∷ loads) = arc_of line ∷ loads_in loads

-- those that are known with nothing supposed
abbrev loads_by : Known → Option Supposition → List KnownArc
loads_by known None = known.loads
loads_by known (Some s) = s.outer.loads

abbrev loads_out : Premises → List KnownArc
loads_out premises = loads_by premises.known premises.supposed

module _ (b : Problem) (bound : ℕ) where
  abbrev left_of : Premises → FactStep → List KnownArc
  left_of premises step = loads_in (load_left (to_show premises) step ∷ [])

  step-loads : (known : Known) (supposed : Option Supposition) (step : FactStep) → is_step_taken b bound (record { known = known; supposed = supposed }) step ≡ true →
      loads_out (with_step (record { known = known; supposed = supposed }) step) ≡ loads_out (record { known = known; supposed = supposed }) ++ left_of (record { known = known; supposed = supposed }) step
  step-loads known None (Fact (Pair m n)) taken = sym (append-nil known.loads)
  step-loads known None (Fact (Load line)) taken = refl
  step-loads known None (Suppose m n) taken = sym (append-nil known.loads)
  step-loads known None Refuted taken = absurd (true≢false (sym taken))
  step-loads known (Some s) (Fact line) taken = sym (append-nil s.outer.loads)
  step-loads known (Some s) (Suppose m n) taken = absurd (true≢false (sym taken))
  step-loads known (Some s) Refuted taken = sym (append-nil s.outer.loads)

  one-more : (load : Option LoadLine) (loads : List (Option LoadLine)) → loads_in (load ∷ []) ++ loads_in loads ≡ loads_in (load ∷ loads)
  one-more None loads = refl
  one-more (Some line) loads = refl

  loads-after : (premises : Premises) (steps : List FactStep) → are_steps_taken b bound premises steps ≡ true →
      loads_out (premises_after premises steps) ≡ loads_out premises ++ loads_in (each_left load_left (to_show premises) steps)
  loads-after premises [] taken = sym (append-nil (loads_out premises))
  loads-after premises (step ∷ steps) taken =
      let (here, past) = and_parts (is_step_taken b bound premises step) _ taken in
      let rest : List (Option LoadLine) = each_left load_left (to_show_after (to_show premises) step) steps in
      loads-after (with_step premises step) steps past
      ∙ ap (λ t. loads_out (with_step premises step) ++ loads_in (each_left load_left t steps)) (sym (to_show-after premises step))
      ∙ ap (λ (loads : List KnownArc). loads ++ loads_in rest) (step-loads premises.known premises.supposed step here)
      ∙ append_assoc (loads_out premises) (left_of premises step) (loads_in rest)
      ∙ ap (λ (loads : List KnownArc). loads_out premises ++ loads) (one-more (load_left (to_show premises) step) rest)

-- out of a supposition
loads-known : (premises : Premises) → premises.supposed ≡ None → loads_out premises ≡ premises.known.loads
loads-known premises closed = same premises.known premises.supposed closed
  where
    same : (known : Known) (supposed : Option Supposition) → supposed ≡ None → loads_out (record { known = known; supposed = supposed }) ≡ known.loads
    same known None closed = refl
    same known (Some s) closed = absurd cc

-- AN ARC, with loads one after the other

module _ (e f : Moment) where
  -- which of two comes first doesn't matter
  swapped : (one two : Option LoadLine) (wait : Option ℕ) → with_load e f one (with_load e f two wait) ≡ with_load e f two (with_load e f one wait)
  swapped None two wait = refl
  swapped (Some x) None wait = refl
  swapped (Some x) (Some y) wait =
      elim (cases_Bool (same_moment e x.from && same_moment f x.to)) [
        | inl one ↦ elim (cases_Bool (same_moment e y.from && same_moment f y.to)) [
          | inl two ↦ rw (one, two) (ap (λ k. Some k) (omega arith))
          | inr two ↦ rw (one, two) refl
        ]
        | inr one ↦ rw one refl
      ]

  first-last : (load : Option LoadLine) (loads : List (Option LoadLine)) (wait : Option ℕ) →
      with_loads e f loads (with_load e f load wait) ≡ with_load e f load (with_loads e f loads wait)
  first-last load [] wait = refl
  first-last load (next ∷ loads) wait =
      ap (with_loads e f loads) (swapped next load wait) ∙ first-last load loads (with_load e f next wait)

  load-same : (net : Network) (line : LoadLine) → with_arc net line.from line.wait line.to e f ≡ with_load e f (Some line) (net e f)
  load-same net line =
      elim (cases_Bool (same_moment e line.from && same_moment f line.to)) [
        | inl meets ↦
            let (first, second) = and_parts (same_moment e line.from) (same_moment f line.to) meets in
            let at : net line.from line.to ≡ net e f = ap₂ net (sym (same_moment-true e line.from first)) (sym (same_moment-true f line.to second)) in
            rw meets (ap (λ (o : Option ℕ). Some (max line.wait (unwrap_or o 0))) at)
        | inr apart ↦ rw apart refl
      ]

  loads-each : (net : Network) (loads : List (Option LoadLine)) → known_with net (loads_in loads) e f ≡ with_loads e f loads (net e f)
  loads-each net [] = refl
  loads-each net (None ∷ loads) = loads-each net loads
  loads-each net (Some line ∷ loads) =
      load-same (known_with net (loads_in loads)) line
      ∙ ap (with_load e f (Some line)) (loads-each net loads)
      ∙ sym (first-last (Some line) loads (net e f))

pub arcs-lines : (d : Document) → AreTaken d → (e f : Moment) → arcs d e f ≡ with_loads e f (loads_left d) (network (problem_of d) (known_of d).before e f)
arcs-lines d taken e f =
    let net : Network = network (problem_of d) (known_of d).before in
    ap (λ (loads : List KnownArc). known_with net loads e f) (sym (loads-known (premises_of d) taken.closed) ∙ loads-after (problem_of d) d.bound (premises_first (problem_of d)) (facts_of d) taken.each)
    ∙ loads-each e f net (loads_left d)
