-- The verdict on fact lines is yes exactly when each is taken after those before it, no supposition is left open, and what comes later is yes. Then they show what is known after them.
use Rattle.std.proofs.Common.{ℕ, suc, ◌≡◌, ◌↔◌, true, false, true≢false, cond, List, [], ◌∷◌, Option, None, Some, refl, sym, ap, inl, inr, is_some}
use Rattle.std.proofs.lemmas.Bool.{cases_Bool, and_parts}
use Rattle.std.proofs.lemmas.Option.{none-some}
use Rattle.s66_moments.specs.{FactStep, Fact, Line, AreFounded, facts_after, Supposition, Premises, premises_first, with_step, premises_after, is_step_taken, are_steps_taken, shown_by_all}
use Rattle.s66_moments.proofs.KnownLines.{IsSound}
use Rattle.s66_moments.proofs.SupposedLines.{after-stands, closed-sound}
use Rattle.s66_cert.specs.{Document}
use Rattle.s66_checker.specs.declared.verdict.Verdict.{Verdict}
use Rattle.s66_checker.specs.{Yes, No, problem_of, facts_of, premises_of, known_of, begun_by, facts_verdict, AreTaken}
use Rattle.s66_checker.specs.declared.verdict.Reason.TheVariants as fault

closed-yes : (supposed : Option Supposition) (begun : ℕ) (later : Verdict) (time bound : ℕ) →
    (cond (is_some supposed) (No begun fault.Fact) later ≡ Yes time bound) ↔ ((supposed ≡ None) × (later ≡ Yes time bound))
closed-yes None begun later time bound = ((λ h. (refl, h)), λ h. h.1)
closed-yes (Some s) begun later time bound = ((λ h. absurd (cc)), λ h. absurd (none-some s (sym h.0)))

pub facts-yes : (d : Document) (steps : List FactStep) (line begun : ℕ) (premises : Premises) (later : Verdict) (time bound : ℕ) →
    (facts_verdict d line begun premises steps later ≡ Yes time bound)
    ↔ ((are_steps_taken (problem_of d) d.bound premises steps ≡ true) × ((premises_after premises steps).supposed ≡ None) × (later ≡ Yes time bound))
facts-yes d [] line begun premises later time bound =
    let closed = closed-yes premises.supposed begun later time bound in
    ((λ h. (refl, (closed.0 h).0, (closed.0 h).1)), λ h. closed.1 (h.1, h.2))
facts-yes d (step ∷ steps) line begun premises later time bound =
    elim (cases_Bool (is_step_taken (problem_of d) d.bound premises step)) [
      | inl is ↦ rw is (facts-yes d steps (suc line) (begun_by line begun step) (with_step premises step) later time bound)
      | inr not ↦ rw not ((λ h. absurd (cc)), λ h. absurd (true≢false (sym h.0)))
    ]

pub facts-taken : (d : Document) (steps : List FactStep) (line begun : ℕ) (premises : Premises) (later : Verdict) →
    are_steps_taken (problem_of d) d.bound premises steps ≡ true → (premises_after premises steps).supposed ≡ None → facts_verdict d line begun premises steps later ≡ later
facts-taken d [] line begun premises later taken closed = ap (λ (supposed : Option Supposition). cond (is_some supposed) (No begun fault.Fact) later) closed
facts-taken d (step ∷ steps) line begun premises later taken closed =
    let (here, past) = and_parts (is_step_taken (problem_of d) d.bound premises step) (are_steps_taken (problem_of d) d.bound (with_step premises step) steps) taken in
    rw here (facts-taken d steps (suc line) (begun_by line begun step) (with_step premises step) later past closed)

-- a line that isn't taken is the first fault, and else the next lines decide
module _ (d : Document) (step : FactStep) (steps rest : List FactStep) (cut : rest ≡ step ∷ steps) (line begun : ℕ) (premises : Premises) (later : Verdict) where
  pub step-refused : is_step_taken (problem_of d) d.bound premises step ≡ false → facts_verdict d line begun premises rest later ≡ No line fault.Fact
  step-refused not = rw (cut, not) refl

  module _ (is : is_step_taken (problem_of d) d.bound premises step ≡ true) where
    pub step-passed : facts_verdict d (suc line) (begun_by line begun step) (with_step premises step) steps later ≡ facts_verdict d line begun premises rest later
    step-passed = rw (cut, is) refl

    pub taken-next : are_steps_taken (problem_of d) d.bound (with_step premises step) steps ≡ are_steps_taken (problem_of d) d.bound premises rest
    taken-next = rw (cut, is) refl

    pub premises-next : premises_after (with_step premises step) steps ≡ premises_after premises rest
    premises-next = rw cut refl

-- WHAT THEY SHOW

abbrev pub shown_lines : Document → List Line
shown_lines d = shown_by_all (problem_of d) (premises_first (problem_of d)) (facts_of d)

abbrev pub shown_facts : Document → List Fact
shown_facts d = facts_after [] (shown_lines d)

module _ (d : Document) (taken : AreTaken d) where
  pub taken-founded : AreFounded (problem_of d) d.bound [] (shown_lines d)
  taken-founded = (after-stands (problem_of d) d.bound (facts_of d) taken.each).0

  pub taken-sound : IsSound (problem_of d) (shown_facts d) (known_of d)
  taken-sound = closed-sound (problem_of d) d.bound (shown_facts d) (premises_of d) (after-stands (problem_of d) d.bound (facts_of d) taken.each).1 taken.closed
