-- Where no path through an instruction takes the bound at the end of a supposition, one of the lines before it says that the end comes so late.
use Rattle.std.proofs.Common.{ℕ, ◌+◌, ◌≡◌, ◌≤◌, ◌∙◌, ◌&&◌, ◌⊎◌, Bool, true, true≢false, false, List, [], ◌∷◌, ◌++◌, Option, None, Some, ap, inl, inr, leb, leb-true, refl, sym, unwrap_or}
use Rattle.std.proofs.lemmas.Bool.{and_from, and_parts, cases_Bool, cond-true, cond-false, or_cases, or_left, or_right}
use Rattle.std.proofs.lemmas.Option.{none-some}
use Rattle.s66_isa.specs.{some_of, numbers}
use Rattle.s66_model.specs.{Problem}
use Rattle.s66_moments.specs.{Origin, End, FactStep, Known, KnownArc, LoadLine, Load, Network, Pair, Premises, Supposition, are_steps_taken, arcs_of, is_late, is_late_load, is_late_through, is_step_taken, reaches, same_moment}
use Rattle.s66_moments.specs.{premises_after, premises_first, with_step}
use Rattle.s66_moments.specs.declared.fact_line.FactStep.TheVariants.{Fact, Suppose, Refuted}
use Rattle.s66_reasons.specs.{end_line, late_number, stays_known, wait_to_end}

some-last : {X : Type 0} (test : X → Bool) (xs : List X) (x : X) → some_of test (xs ++ x ∷ []) ≡ true → (some_of test xs ≡ true) ⊎ (test x ≡ true)
some-last test [] x some =
    elim (or_cases (test x) false some) [
      | inl is ↦ inr is
      | inr not ↦ absurd (true≢false (sym not))
    ]
some-last test (y ∷ xs) x some =
    elim (or_cases (test y) (some_of test (xs ++ x ∷ [])) some) [
      | inl here ↦ inl (or_left (test y) (some_of test xs) here)
      | inr past ↦ elim (some-last test xs x past) [
        | inl among ↦ inl (or_right (test y) (some_of test xs) among)
        | inr last ↦ inr last
      ]
    ]

-- no number of these is late
none-through : (b : Problem) (arcs : Network) (bound : ℕ) (ns : List ℕ) → late_number b arcs bound ns ≡ None → some_of (is_late_through b arcs bound) ns ≡ false
none-through b arcs bound [] none = refl
none-through b arcs bound (n ∷ ns) none =
    elim (cases_Bool (is_late_through b arcs bound n)) [
      | inl is ↦ absurd (none-some _ (sym none ∙ cond-true {A = Option ℕ} (is_late_through b arcs bound n) (Some n) (late_number b arcs bound ns) is))
      | inr not ↦ rw not (none-through b arcs bound ns (sym (cond-false {A = Option ℕ} (is_late_through b arcs bound n) (Some n) (late_number b arcs bound ns) not) ∙ none))
    ]

module _ (b : Problem) (bound : ℕ) where
  abbrev late : List KnownArc → Bool
  late loads = some_of (is_late_load bound) loads

  abbrev late_outer : Option Supposition → Bool
  late_outer None = false
  late_outer (Some s) = late s.outer.loads

  abbrev IsNamed : ℕ → List FactStep → Type 0
  IsNamed number steps = (line : ℕ × ℕ) × (end_line bound number steps ≡ Some line) × (bound ≤ line.1)

  -- one of these lines is named, or was known before them and still is, or was when what was supposed before them began
  abbrev IsOf : Known → Option Supposition → ℕ → List FactStep → Type 0
  IsOf known supposed number steps =
      IsNamed number steps ⊎ (((stays_known steps ≡ true) × (late known.loads ≡ true)) ⊎ (late_outer supposed ≡ true))

  reaches-wait : (o : Option ℕ) → reaches bound o ≡ true → bound ≤ unwrap_or o 0
  reaches-wait None is = absurd (true≢false (sym is))
  reaches-wait (Some w) is = leb-true bound w is

  -- a line is named, or what is behind it
  here-named : (step : FactStep) (steps : List FactStep) (number : ℕ) → reaches bound (wait_to_end step) ≡ true → stays_known steps ≡ true → IsNamed number (step ∷ steps)
  here-named step steps number is stays = (
    (number, unwrap_or (wait_to_end step) 0),
    cond-true {A = Option (ℕ × ℕ)} (reaches bound (wait_to_end step) && stays_known steps) (Some (number, unwrap_or (wait_to_end step) 0)) (end_line bound (number + 1) steps) (and_from (reaches bound (wait_to_end step)) (stays_known steps) is stays),
    reaches-wait (wait_to_end step) is,
  )

  past-named : (step : FactStep) (steps : List FactStep) (number : ℕ) → IsNamed (number + 1) steps → IsNamed number (step ∷ steps)
  past-named step steps number (line, is, le) =
      let test : Bool = reaches bound (wait_to_end step) && stays_known steps in
      let one : ℕ × ℕ = (number, unwrap_or (wait_to_end step) 0) in
      elim (cases_Bool test) [
        | inl hit ↦ (one, cond-true {A = Option (ℕ × ℕ)} test (Some one) (end_line bound (number + 1) steps) hit, reaches-wait (wait_to_end step) (and_parts (reaches bound (wait_to_end step)) (stays_known steps) hit).0)
        | inr off ↦ (line, cond-false {A = Option (ℕ × ℕ)} test (Some one) (end_line bound (number + 1) steps) off ∙ is, le)
      ]

  -- a load that is late is one by which the end comes so late
  load-waits : (line : LoadLine) → is_late_load bound (record { from = line.from; wait = line.wait; to = line.to }) ≡ true → reaches bound (wait_to_end (Fact (Load line))) ≡ true
  load-waits line is =
      let ends : Bool = same_moment line.from Origin && same_moment line.to End in
      let (so, enough) = and_parts ends (leb bound line.wait) is in
      ap (reaches bound) (cond-true {A = Option ℕ} ends (Some line.wait) None so) ∙ enough

  is-of : (known : Known) (supposed : Option Supposition) (number : ℕ) (steps : List FactStep) → are_steps_taken b bound (record { known = known; supposed = supposed }) steps ≡ true →
      late (premises_after (record { known = known; supposed = supposed }) steps).known.loads ≡ true → IsOf known supposed number steps
  is-of known supposed number [] taken is = inr (inl (refl, is))
  is-of known supposed number (Fact (Pair m n) ∷ steps) taken is =
      let after : Premises = with_step (record { known = known; supposed = supposed }) (Fact (Pair m n)) in
      elim (is-of after.known after.supposed (number + 1) steps (and_parts _ (are_steps_taken b bound after steps) taken).1 is) [
        | inl named ↦ inl (past-named (Fact (Pair m n)) steps number named)
        | inr (inl before) ↦ inr (inl before)
        | inr (inr outer) ↦ inr (inr outer)
      ]
  is-of known supposed number (Fact (Load line) ∷ steps) taken is =
      let after : Premises = with_step (record { known = known; supposed = supposed }) (Fact (Load line)) in
      elim (is-of after.known after.supposed (number + 1) steps (and_parts _ (are_steps_taken b bound after steps) taken).1 is) [
        | inl named ↦ inl (past-named (Fact (Load line)) steps number named)
        | inr (inl (stays, some)) ↦ elim (some-last (is_late_load bound) known.loads (record { from = line.from; wait = line.wait; to = line.to }) some) [
          | inl before ↦ inr (inl (stays, before))
          | inr here ↦ inl (here-named (Fact (Load line)) steps number (load-waits line here) stays)
        ]
        | inr (inr outer) ↦ inr (inr outer)
      ]
  is-of known supposed number (Suppose m n ∷ steps) taken is =
      let after : Premises = with_step (record { known = known; supposed = supposed }) (Suppose m n) in
      elim (is-of after.known after.supposed (number + 1) steps (and_parts _ (are_steps_taken b bound after steps) taken).1 is) [
        | inl named ↦ inl (past-named (Suppose m n) steps number named)
        | inr (inl (stays, before)) ↦ inr (inl (refl, before))
        | inr (inr outer) ↦ inr (inl (refl, outer))
      ]
  is-of known None number (Refuted ∷ steps) taken is = absurd (true≢false (sym taken))
  is-of known (Some s) number (Refuted ∷ steps) taken is =
      let after : Premises = with_step (record { known = known; supposed = Some s }) Refuted in
      elim (is-of after.known after.supposed (number + 1) steps (and_parts _ (are_steps_taken b bound after steps) taken).1 is) [
        | inl named ↦ inl (past-named Refuted steps number named)
        | inr (inl (stays, outer)) ↦ inr (inr outer)
        | inr (inr none) ↦ absurd (true≢false (sym none))
      ]

  pub end-named : (front : List FactStep) (behind : ℕ) → are_steps_taken b bound (premises_first b) front ≡ true → is_step_taken b bound (premises_after (premises_first b) front) Refuted ≡ true →
      late_number b (arcs_of b (premises_after (premises_first b) front).known) bound (behind ∷ numbers b.block) ≡ None → IsNamed 1 front
  end-named front behind taken refuted none =
      let premises : Premises = premises_after (premises_first b) front in
      let arcs : Network = arcs_of b premises.known in
      let (begun, is) = and_parts _ (is_late b bound premises.known) refuted in
      let off : some_of (is_late_through b arcs bound) (numbers b.block) ≡ false = (none-both behind (numbers b.block) arcs none) in
      elim (or_cases (some_of (is_late_through b arcs bound) (numbers b.block)) (late premises.known.loads) is) [
        | inl some ↦ absurd (true≢false (sym some ∙ off))
        | inr by_load ↦ elim (is-of (premises_first b).known None 1 front taken by_load) [
          | inl named ↦ named
          | inr (inl (stays, known)) ↦ absurd (true≢false (sym known))
          | inr (inr outer) ↦ absurd (true≢false (sym outer))
        ]
      ]
    where
      none-both : (behind : ℕ) (ns : List ℕ) (arcs : Network) → late_number b arcs bound (behind ∷ ns) ≡ None → some_of (is_late_through b arcs bound) ns ≡ false
      none-both behind ns arcs none =
          elim (cases_Bool (is_late_through b arcs bound behind)) [
            | inl is ↦ absurd (none-some _ (sym none ∙ cond-true {A = Option ℕ} (is_late_through b arcs bound behind) (Some behind) (late_number b arcs bound ns) is))
            | inr not ↦ none-through b arcs bound ns (sym (cond-false {A = Option ℕ} (is_late_through b arcs bound behind) (Some behind) (late_number b arcs bound ns) not) ∙ none)
          ]
