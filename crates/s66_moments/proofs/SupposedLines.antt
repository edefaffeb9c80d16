-- Steps that are taken show what is founded, and what is known after them is known by that, and by what is supposed.
use Rattle.std.proofs.Common.{ℕ, ◌≡◌, ◌≢◌, true, false, true≢false, not, ◌&&◌, List, [], ◌∷◌, ◌++◌, map, refl, sym, ap, arith, inl, inr, eqb, leb, subst, Option, Some, None, leb-true}
use Rattle.std.proofs.lemmas.Bool.{and_parts, or_cases, not-true, eqb-false}
use Rattle.s66_isa.specs.{some_of, Among, numbers}
use Rattle.s66_model.specs.{Problem}
use Rattle.s66_moments.specs.{Stage, Issue, Start, Origin, At, End, FactLine, FactStep, Fact as SomeFact, Arc, Before, IsNumber, IsStep, Leads, same_moment, Line, fact_of, IsRefuted, AreFounded}
use Rattle.s66_moments.specs.{facts_after, Known, line_of, is_number, is_taken, are_taken, known_after, with_line, plus, span, arcs_of, Supposition, Premises, premises_by, premises_first, with_step}
use Rattle.s66_moments.specs.{premises_after, may_be_supposed, is_late_at, is_late_through, is_late_load, is_late, is_step_taken, are_steps_taken, shown_by, shown_by_all}
use Rattle.s66_moments.specs.declared.fact_line.FactStep.TheVariants.{Fact, Suppose, Refuted}
use Rattle.s66_moments.proofs.TableArcs.{and_three, and_five, some-found}
use Rattle.s66_moments.proofs.MoreArcs.{same_moment-true}
use Rattle.s66_moments.proofs.NextLeaves.{path-join, waits-join}
use Rattle.s66_moments.proofs.Spans.{plus-some}
use Rattle.s66_moments.proofs.KnownLines.{IsSound, number-is, pair-sound, line-by_paths, line-founded, line-sound, span-leads, reaches-some, first-sound}

-- LINES, one list after the other

facts-append : (known : List SomeFact) (lines more : List Line) → facts_after known (lines ++ more) ≡ facts_after (facts_after known lines) more
facts-append known [] more = refl
facts-append known (line ∷ lines) more = facts-append (fact_of line ∷ known) lines more

founded-append : (b : Problem) (low : ℕ) (known : List SomeFact) (lines more : List Line) →
    AreFounded b low known lines → AreFounded b low (facts_after known lines) more → AreFounded b low known (lines ++ more)
founded-append b low known [] more founded then = then
founded-append b low known (line ∷ lines) more founded then = (founded.0, founded-append b low (fact_of line ∷ known) lines more founded.1 then)

-- WHAT IS SUPPOSED

module _ (b : Problem) (bound : ℕ) where
  -- the numbers of a supposition, of which neither was known to stand before the other
  pub record MaySuppose (known : Known) (m n : ℕ) : Type 0 where
    pub differ : m ≢ n
    pub is_m : IsNumber b m
    pub is_n : IsNumber b n
    pub off : known.before m n ≡ false
    pub off_back : known.before n m ≡ false

  pub supposed-parts : (known : Known) (m n : ℕ) → may_be_supposed b known m n ≡ true → MaySuppose known m n
  supposed-parts known m n h =
      let (differ, is_m, is_n, off, off_back) = and_five (not (eqb m n)) (is_number b m) (is_number b n) (not (known.before m n)) (not (known.before n m)) h in
      record {
        differ = eqb-false m n (not-true (eqb m n) differ);
        is_m = number-is b m is_m;
        is_n = number-is b n is_n;
        off = not-true (known.before m n) off;
        off_back = not-true (known.before n m) off_back;
      }

  -- The facts of what is known, over those that are known of all orders. If what is supposed is refuted now, it was so when it began.
  abbrev GoesBack : (base facts : List SomeFact) → Option Supposition → Type 0
  GoesBack base facts None = base ≡ facts
  GoesBack base facts (Some s) =
      IsSound b base s.outer × MaySuppose s.outer s.first s.second × (IsRefuted b bound facts → IsRefuted b bound (Before s.second s.first ∷ base))

  pub record Stands (base : List SomeFact) (premises : Premises) : Type 0 where
    pub facts : List SomeFact
    pub sound : IsSound b facts premises.known
    pub goes_back : GoesBack base facts premises.supposed

  -- TOO LATE

  module _ (facts : List SomeFact) (known : Known) (sound : IsSound b facts known) where
    at-leads : (stage : Stage) (n : ℕ) → is_late_at b (arcs_of b known) bound stage n ≡ true → Leads b facts Origin bound End
    at-leads stage n h =
        let (w, is, le) = reaches-some b facts known sound bound (plus (span b (arcs_of b known) Origin (At n stage)) (span b (arcs_of b known) (At n stage) End)) h in
        let (u, t, head, tail, sum) = plus-some (span b (arcs_of b known) Origin (At n stage)) (span b (arcs_of b known) (At n stage) End) w is in
        let (hops, path, takes) = span-leads b facts known sound Origin (At n stage) u head in
        let (more, then, takes2) = span-leads b facts known sound (At n stage) End t tail in
        (hops ++ more, path-join (IsStep b facts) Origin (At n stage) End hops more path then, omega (arith, le, sum, takes, takes2, waits-join hops more))

    late-leads : is_late b bound known ≡ true → Leads b facts Origin bound End
    late-leads h =
        elim (or_cases (some_of (is_late_through b (arcs_of b known) bound) (numbers b.block)) (some_of (is_late_load bound) known.loads) h) [
          | inl by_number ↦
              let (n, among, late) = some-found (is_late_through b (arcs_of b known) bound) (numbers b.block) by_number in
              elim (or_cases (is_late_at b (arcs_of b known) bound Issue n) (is_late_at b (arcs_of b known) bound Start n) late) [
                | inl issue ↦ at-leads Issue n issue
                | inr start ↦ at-leads Start n start
              ]
          | inr by_load ↦
              let (load, among, late) = some-found (is_late_load bound) known.loads by_load in
              let (from, to, enough) = and_three (same_moment load.from Origin) (same_moment load.to End) (leb bound load.wait) late in
              let arc : Among (Arc Origin load.wait End 0) facts =
              subst (λ e. Among (Arc e load.wait End 0) facts) (same_moment-true load.from Origin from)
              (subst (λ f. Among (Arc load.from load.wait f 0) facts) (same_moment-true load.to End to) (sound.among load among)) in
              (record { wait = load.wait; to = End } ∷ [], (inr (inl arc), refl), omega (arith, leb-true bound load.wait enough))
        ]

  -- A STEP

  abbrev Goes : (base : List SomeFact) → Premises → FactStep → Type 0
  Goes base premises step = AreFounded b bound base (shown_by b premises step) × Stands (facts_after base (shown_by b premises step)) (with_step premises step)

  fact-goes : (base facts : List SomeFact) (known : Known) (supposed : Option Supposition) → IsSound b facts known → GoesBack base facts supposed → (line : FactLine) → is_taken b bound known line ≡ true →
      Goes base (record { known = known; supposed = supposed }) (Fact line)
  fact-goes base facts known None sound same line h =
      let sound2 : IsSound b base known = subst (λ fs. IsSound b fs known) (sym same) sound in
      ((line-founded b bound base known sound2 line h, tt), record { facts = fact_of (line_of b line) ∷ base; sound = line-sound b bound base known sound2 line h; goes_back = refl })
  fact-goes base facts known (Some s) sound (under, may, back) line h = (
    tt,
    record {
      facts = fact_of (line_of b line) ∷ facts;
      sound = line-sound b bound facts known sound line h;
      goes_back = (under, may, (λ (lines, founded, late). back (line_of b line ∷ lines, (line-by_paths b bound facts known sound line h, founded), late)));
    },
  )

  suppose-goes : (base facts : List SomeFact) (known : Known) (supposed : Option Supposition) → IsSound b facts known → GoesBack base facts supposed → (m n : ℕ) →
      is_step_taken b bound (record { known = known; supposed = supposed }) (Suppose m n) ≡ true → Goes base (record { known = known; supposed = supposed }) (Suppose m n)
  suppose-goes base facts known None sound same m n h =
      let may : MaySuppose known m n = supposed-parts known m n h in
      let sound2 : IsSound b base known = subst (λ fs. IsSound b fs known) (sym same) sound in (
        tt,
        record {
          facts = Before n m ∷ base;
          sound = pair-sound b bound base known sound2 n m (λ e. may.differ (sym e)) may.is_n may.is_m may.off;
          goes_back = (sound2, may, (λ refuted. refuted));
        },
      )
  suppose-goes base facts known (Some s) sound goes_back m n h = absurd (true≢false (sym h))

  refuted-goes : (base facts : List SomeFact) (known : Known) (supposed : Option Supposition) → IsSound b facts known → GoesBack base facts supposed →
      is_step_taken b bound (record { known = known; supposed = supposed }) Refuted ≡ true → Goes base (record { known = known; supposed = supposed }) Refuted
  refuted-goes base facts known None sound same h = absurd (true≢false (sym h))
  refuted-goes base facts known (Some s) sound (under, may, back) h = (
    (((λ e. may.differ (sym e)), may.is_n, may.is_m, back ([], tt, inl (late-leads facts known sound h))), tt),
    record {
      facts = Before s.first s.second ∷ base;
      sound = pair-sound b bound base s.outer under s.first s.second may.differ may.is_m may.is_n may.off_back;
      goes_back = refl;
    },
  )

  step-goes : (base : List SomeFact) (premises : Premises) (step : FactStep) → Stands base premises → is_step_taken b bound premises step ≡ true → Goes base premises step
  step-goes base premises (Fact line) stands h = fact-goes base stands.facts premises.known premises.supposed stands.sound stands.goes_back line h
  step-goes base premises (Suppose m n) stands h = suppose-goes base stands.facts premises.known premises.supposed stands.sound stands.goes_back m n h
  step-goes base premises Refuted stands h = refuted-goes base stands.facts premises.known premises.supposed stands.sound stands.goes_back h

  -- ALL STEPS

  steps-go : (base : List SomeFact) (premises : Premises) (steps : List FactStep) → Stands base premises → are_steps_taken b bound premises steps ≡ true →
      AreFounded b bound base (shown_by_all b premises steps) × Stands (facts_after base (shown_by_all b premises steps)) (premises_after premises steps)
  steps-go base premises [] stands h = (tt, stands)
  steps-go base premises (step ∷ steps) stands h =
      let (here, past) = and_parts (is_step_taken b bound premises step) _ h in
      let lines : List Line = shown_by b premises step in
      let more : List Line = shown_by_all b (with_step premises step) steps in
      let (founded, then) = step-goes base premises step stands here in
      let (founded2, last) = steps-go (facts_after base lines) (with_step premises step) steps then past in (
        founded-append b bound base lines more founded founded2,
        subst (λ fs. Stands fs (premises_after premises (step ∷ steps))) (sym (facts-append base lines more)) last,
      )

  pub after-stands : (steps : List FactStep) → are_steps_taken b bound (premises_first b) steps ≡ true →
      AreFounded b bound [] (shown_by_all b (premises_first b) steps) × Stands (facts_after [] (shown_by_all b (premises_first b) steps)) (premises_after (premises_first b) steps)
  after-stands steps h = steps-go [] (premises_first b) steps (record { facts = []; sound = first-sound b; goes_back = refl }) h

  -- where no supposition is open, what is known is known of all orders
  pub closed-sound : (base : List SomeFact) (premises : Premises) → Stands base premises → premises.supposed ≡ None → IsSound b base premises.known
  closed-sound base premises stands none =
      let same : base ≡ stands.facts = subst (λ supposed. GoesBack base stands.facts supposed) none stands.goes_back in
      subst (λ fs. IsSound b fs premises.known) (sym same) stands.sound

-- FACT LINES ALONE

pub plain-taken : (b : Problem) (bound : ℕ) (known : Known) (lines : List FactLine) → are_steps_taken b bound (premises_by known) (map Fact lines) ≡ are_taken b bound known lines
plain-taken b bound known [] = refl
plain-taken b bound known (line ∷ lines) = ap (λ rest. is_taken b bound known line && rest) (plain-taken b bound (with_line known line) lines)

pub plain-known : (known : Known) (lines : List FactLine) → premises_after (premises_by known) (map Fact lines) ≡ premises_by (known_after known lines)
plain-known known [] = refl
plain-known known (line ∷ lines) = plain-known (with_line known line) lines

pub plain-lines : (b : Problem) (known : Known) (lines : List FactLine) → shown_by_all b (premises_by known) (map Fact lines) ≡ map (line_of b) lines
plain-lines b known [] = refl
plain-lines b known (line ∷ lines) = ap (λ rest. line_of b line ∷ rest) (plain-lines b (with_line known line) lines)
