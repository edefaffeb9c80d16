-- What is known after steps that are taken, each faster order has that has what is supposed; and at the end of a supposition none has.
use Rattle.std.proofs.Common.{ℕ, ◌+◌, ◌≡◌, ◌≤◌, ◌<◌, Bool, true, true≢false, ◌&&◌, List, [], ◌∷◌, Option, None, Some, ap, arith, inl, inr, leb, refl, sym, leb-true, ltb-false, ltb-true, nat_lt}
use Rattle.std.proofs.lemmas.Bool.{and_parts, cases_Bool, or_cases}
use Rattle.s66_isa.specs.{Among, some_of, numbers}
use Rattle.s66_model.specs.{Problem, total_of, IsLegal}
use Rattle.s66_moments.specs.{Stage, Issue, Start, Moment, Origin, At, End, FactStep, KnownArc, time_of, AreSo, Arc, Before, Fact as FactOf, NoOrder, fact_of, Network, same_moment, Known, arcs_of}
use Rattle.s66_moments.specs.{line_of, plus, span, Premises, Supposition, are_steps_taken, is_late, is_late_at, is_late_load, is_late_through, is_step_taken, premises_after, premises_first, with_step}
use Rattle.s66_moments.specs.declared.fact_line.FactStep.TheVariants.{Fact, Suppose, Refuted}
use Rattle.s66_moments.proofs.FactLaws.{among-so, forced}
use Rattle.s66_moments.proofs.FoundedLines.{line-follows}
use Rattle.s66_moments.proofs.KnownLines.{IsSound, first-sound, line-founded, line-sound, pair-sound, reaches-some, span-leads}
use Rattle.s66_moments.proofs.MoreArcs.{same_moment-true}
use Rattle.s66_moments.proofs.Spans.{plus-some}
use Rattle.s66_moments.proofs.Steps.{leads-so, precedes-so}
use Rattle.s66_moments.proofs.SupposedLines.{MaySuppose, supposed-parts}
use Rattle.s66_cert.specs.{Document}
use Rattle.s66_checker.specs.{problem_of}
use Rattle.s66_reasons.specs.{HasKnown, HasSupposed, HoldsIn, IsRefutedIn}

some-found : {X : Type 0} (test : X → Bool) (xs : List X) → some_of test xs ≡ true → (x : X) × (test x ≡ true) × Among x xs
some-found test [] h = absurd (true≢false (sym h))
some-found test (x ∷ xs) h =
    elim (or_cases (test x) (some_of test xs) h) [
      | inl here ↦ (x, here, inl refl)
      | inr past ↦ (let (y, is, among) = some-found test xs past in (y, is, inr among))
    ]

module _ (b : Problem) (bound : ℕ) where
  -- AN ORDER that has the facts of what is known

  module _ (facts : List FactOf) (known : Known) (sound : IsSound b facts known) (order : List ℕ) (legal : IsLegal b.block order) (so : AreSo b order facts) where
    abbrev arcs : Network
    arcs = arcs_of b known

    path-so : (e f : Moment) (wait : ℕ) → span b arcs e f ≡ Some wait → time_of b order e + wait ≤ time_of b order f
    path-so e f wait is = leads-so b facts order legal so e wait f (span-leads b facts known sound e f wait is)

    has-known : HasKnown b known order
    has-known =
        record {
          pairs = λ m n is_m is_n before. precedes-so b facts order legal so m n (sound.is_known m n is_m is_n before);
          paths = λ e f wait is. omega (arith, path-so e f wait is);
        }

    late-at : (stage : Stage) (n : ℕ) → is_late_at b arcs bound stage n ≡ true → bound ≤ total_of b order
    late-at stage n late =
        let (w, is, le) = reaches-some b facts known sound bound (plus (span b arcs Origin (At n stage)) (span b arcs (At n stage) End)) late in
        let (u, t, head, tail, sum) = plus-some (span b arcs Origin (At n stage)) (span b arcs (At n stage) End) w is in
        omega (arith, le, sum, path-so Origin (At n stage) u head, path-so (At n stage) End t tail)

    late-load : (load : KnownArc) → is_late_load bound load ≡ true → Among load known.loads → bound ≤ total_of b order
    late-load load late among =
        let (ends, enough) = and_parts (same_moment load.from Origin && same_moment load.to End) (leb bound load.wait) late in
        let (from, to) = and_parts (same_moment load.from Origin) (same_moment load.to End) ends in
        let arc = among-so b order (Arc load.from load.wait load.to 0) facts (sound.among load among) so in
        omega (arith, leb-true bound load.wait enough, arc, ap (time_of b order) (same_moment-true load.from Origin from), ap (time_of b order) (same_moment-true load.to End to))

    late-end : is_late b bound known ≡ true → bound ≤ total_of b order
    late-end late =
        elim (or_cases (some_of (is_late_through b arcs bound) (numbers b.block)) (some_of (is_late_load bound) known.loads) late) [
          | inl by_number ↦
              let (n, through, among) = some-found (is_late_through b arcs bound) (numbers b.block) by_number in
              elim (or_cases (is_late_at b arcs bound Issue n) (is_late_at b arcs bound Start n) through) [
                | inl issue ↦ late-at Issue n issue
                | inr start ↦ late-at Start n start
              ]
          | inr by_load ↦ (let (load, is, among) = some-found (is_late_load bound) known.loads by_load in late-load load is among)
        ]

  -- STEPS

  -- each faster order that has what is supposed has these facts
  abbrev AreSoIn : Option Supposition → List FactOf → Type 0
  AreSoIn supposed facts = (order : List ℕ) → IsLegal b.block order → total_of b order < bound → HasSupposed b supposed order → AreSo b order facts

  -- what was known when a supposition began
  record IsOuter (s : Supposition) : Type 0 where
    facts : List FactOf
    sound : IsSound b facts s.outer
    so : AreSoIn None facts
    may : MaySuppose b bound s.outer s.first s.second

  abbrev HasOuter : Option Supposition → Type 0
  HasOuter None = Unit {0}
  HasOuter (Some s) = IsOuter s

  record Holds (known : Known) (supposed : Option Supposition) : Type 0 where
    facts : List FactOf
    sound : IsSound b facts known
    so : AreSoIn supposed facts
    outer : HasOuter supposed

  abbrev HoldsNow : Premises → Type 0
  HoldsNow premises = Holds premises.known premises.supposed

  refuted-holds : (known : Known) (s : Supposition) → Holds known (Some s) → IsOuter s → is_late b bound known ≡ true → HoldsNow (with_step (record { known = known; supposed = Some s }) Refuted)
  refuted-holds known s holds outer late =
      let none : NoOrder b bound (Before s.second s.first ∷ outer.facts) = λ order legal less (before, so). absurd (omega (arith, less, late-end holds.facts known holds.sound order legal (holds.so order legal less before) late)) in
      record {
        facts = Before s.first s.second ∷ outer.facts;
        sound = pair-sound b bound outer.facts s.outer outer.sound s.first s.second outer.may.differ outer.may.is_m outer.may.is_n outer.may.off_back;
        so = λ order legal less has. (forced b bound outer.facts s.second s.first (λ e. outer.may.differ (sym e)) outer.may.is_n outer.may.is_m none order legal less (outer.so order legal less tt), outer.so order legal less tt);
        outer = tt;
      }

  step-holds : (known : Known) (supposed : Option Supposition) (step : FactStep) → Holds known supposed → is_step_taken b bound (record { known = known; supposed = supposed }) step ≡ true →
      HoldsNow (with_step (record { known = known; supposed = supposed }) step)
  step-holds known supposed (Fact line) holds taken =
      record {
        facts = fact_of (line_of b line) ∷ holds.facts;
        sound = line-sound b bound holds.facts known holds.sound line taken;
        so = λ order legal less has. (
          line-follows b bound holds.facts (line_of b line) (line-founded b bound holds.facts known holds.sound line taken) order legal less (holds.so order legal less has),
          holds.so order legal less has,
        );
        outer = holds.outer;
      }
  step-holds known None (Suppose m n) holds taken =
      let may : MaySuppose b bound known m n = supposed-parts b bound known m n taken in
      record {
        facts = Before n m ∷ holds.facts;
        sound = pair-sound b bound holds.facts known holds.sound n m (λ e. may.differ (sym e)) may.is_n may.is_m may.off;
        so = λ order legal less has. (has, holds.so order legal less tt);
        outer = record { facts = holds.facts; sound = holds.sound; so = holds.so; may = may };
      }
  step-holds known (Some s) (Suppose m n) holds taken = absurd (true≢false (sym taken))
  step-holds known None Refuted holds taken = absurd (true≢false (sym taken))
  step-holds known (Some s) Refuted holds taken = refuted-holds known s holds holds.outer taken

  steps-hold : (premises : Premises) (steps : List FactStep) → HoldsNow premises → are_steps_taken b bound premises steps ≡ true → HoldsNow (premises_after premises steps)
  steps-hold premises [] holds taken = holds
  steps-hold premises (step ∷ steps) holds taken =
      let (here, past) = and_parts (is_step_taken b bound premises step) _ taken in
      steps-hold (with_step premises step) steps (step-holds premises.known premises.supposed step holds here) past

  after-holds : (steps : List FactStep) → are_steps_taken b bound (premises_first b) steps ≡ true → HoldsNow (premises_after (premises_first b) steps)
  after-holds steps taken =
      steps-hold (premises_first b) steps (record { facts = []; sound = first-sound b; so = λ order legal less has. tt; outer = tt }) taken

-- OF A DOCUMENT

module _ (d : Document) (front : List FactStep) (taken : are_steps_taken (problem_of d) d.bound (premises_first (problem_of d)) front ≡ true) where
  abbrev premises : Premises
  premises = premises_after (premises_first (problem_of d)) front

  holds : HoldsNow (problem_of d) d.bound premises
  holds = after-holds (problem_of d) d.bound front taken

  pub holds-in : HoldsIn d premises
  holds-in order legal less has = has-known (problem_of d) d.bound holds.facts premises.known holds.sound order legal (holds.so order legal less has)

  -- the last step of a supposition
  pub refuted-in : is_step_taken (problem_of d) d.bound premises Refuted ≡ true → IsRefutedIn d premises
  refuted-in last order legal has =
      elim (cases_Bool (nat_lt (total_of (problem_of d) order) d.bound)) [
        | inl faster ↦
            let less : total_of (problem_of d) order < d.bound = ltb-true (total_of (problem_of d) order) d.bound faster in
            late-end (problem_of d) d.bound holds.facts premises.known holds.sound order legal (holds.so order legal less has) (and_parts _ (is_late (problem_of d) d.bound premises.known) last).1
        | inr not ↦ ltb-false (total_of (problem_of d) order) d.bound not
      ]
