-- What is said of fact lines, one after the other, and which instruction is too late by what is known.
use Rattle.std.proofs.Common.{ℕ, ◌+◌, ◌-◌, ◌≡◌, ◌≤◌, ◌<◌, ◌∙◌, true, false, List, ◌∷◌, ◌++◌, IfSome, Option, None, Some, ap, append_assoc, arith, drop, get_or, length, refl, sym}
use Rattle.std.proofs.lemmas.Bool.{and_parts}
use Rattle.s66_isa.specs.{rising}
use Rattle.s66_isa.proofs.Lists.{rising-next}
use Rattle.s66_model.specs.{Problem}
use Rattle.s66_moments.specs.{FactStep, IsNumber, Network, Premises, are_steps_taken, is_late_through, is_step_taken, may_be_supposed, with_step}
use Rattle.s66_moments.specs.declared.fact_line.FactStep.TheVariants.{Fact, Suppose, Refuted}
use Rattle.s66_moments.proofs.SupposedLines.{supposed-parts}
use Rattle.s66_cert.specs.{Document}
use Rattle.s66_cert.proofs.Printed.{drop-here}
use Rattle.s66_reasons.specs.{facts_from, late_number, numbered_step, to_show_after}

-- LINES

pub facts-more : (d : Document) (premises after : Premises) (number : ℕ) (step : FactStep) (more all : List FactStep) (old new : List ℕ) → all ≡ step ∷ more →
    after ≡ with_step premises step → new ≡ old ++ numbered_step d premises number step →
    new ++ facts_from d after (number + 1) more ≡ old ++ facts_from d premises number all
facts-more d premises after number step more all old new is then pushed =
    let one = numbered_step d premises number step in
    let rest = facts_from d (with_step premises step) (number + 1) more in
    ap (λ (s : Premises). new ++ facts_from d s (number + 1) more) then
    ∙ ap (λ xs. xs ++ rest) pushed ∙ append_assoc old one rest
    ∙ ap (λ (steps : List FactStep). old ++ facts_from d premises number steps) (sym is)

-- the next of lines that are taken is, and so are those after it
pub next-taken : (b : Problem) (bound : ℕ) (premises : Premises) (steps : List FactStep) (i : ℕ) (step : FactStep) → i < length steps → step ≡ get_or steps i step →
    are_steps_taken b bound premises (drop i steps) ≡ true →
    (is_step_taken b bound premises step ≡ true) × (are_steps_taken b bound (with_step premises step) (drop (i + 1) steps) ≡ true)
next-taken b bound premises steps i step within is taken =
    and_parts (is_step_taken b bound premises step) (are_steps_taken b bound (with_step premises step) (drop (i + 1) steps))
    (sym (ap (are_steps_taken b bound premises) (drop-here steps i step within is)) ∙ taken)

-- the first of a pair that is to be shown is a number of the block
pub number-shown : (b : Problem) (bound : ℕ) (premises : Premises) (shows : Option (ℕ × ℕ)) (step : FactStep) → is_step_taken b bound premises step ≡ true →
    IfSome shows (λ pair. IsNumber b pair.0) → IfSome (to_show_after shows step) (λ pair. IsNumber b pair.0)
number-shown b bound premises shows (Fact line) taken number = number
number-shown b bound premises shows (Suppose m n) taken number = (supposed-parts b bound premises.known m n (and_parts _ (may_be_supposed b premises.known m n) taken).1).is_m
number-shown b bound premises shows Refuted taken number = tt

-- THE FIRST NUMBER that is too late

module _ (b : Problem) (arcs : Network) (bound count : ℕ) where
  pub late-here : (i : ℕ) → i < count → is_late_through b arcs bound (i + 1) ≡ true → late_number b arcs bound (rising (count - i) (i + 1)) ≡ Some (i + 1)
  late-here i within is = ap (late_number b arcs bound) (rising-next count i within) ∙ rw is refl

  pub late-later : (i : ℕ) → i < count → is_late_through b arcs bound (i + 1) ≡ false →
      late_number b arcs bound (rising (count - i) (i + 1)) ≡ late_number b arcs bound (rising (count - (i + 1)) (i + 1 + 1))
  late-later i within not = ap (late_number b arcs bound) (rising-next count i within) ∙ rw not refl

  pub late-none : (i : ℕ) → count ≤ i → late_number b arcs bound (rising (count - i) (i + 1)) ≡ None
  late-none i past =
      let none : count - i ≡ 0 = omega (arith, past) in
      ap (λ k. late_number b arcs bound (rising k (i + 1))) none
