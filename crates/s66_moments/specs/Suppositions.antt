-- To be believed: fact lines with suppositions among them, as a certificate has them: which are taken, what is known after them, and what they show of all orders.
use Rattle.std.specs.Prelude.{ℕ, Bool, true, false, if◌then◌else◌, not, ◌&&◌, ◌||◌, ◌==◌, List, [], ◌∷◌, ◌++◌, nat_le, Option, Some, None, is_some}
use Rattle.std.specs.Option.{option_map_or}
use Rattle.s66_isa.specs.{some_of, numbers}
use Rattle.s66_model.specs.{Problem}
use Rattle.s66_moments.specs.declared.moment.Stage.{Stage}
use Rattle.s66_moments.specs.declared.moment.Stage.TheVariants.{Issue, Start}
use Rattle.s66_moments.specs.declared.moment.Moment.TheVariants.{Origin, At, End}
use Rattle.s66_moments.specs.declared.fact_line.FactStep.{FactStep}
use Rattle.s66_moments.specs.declared.fact_line.FactStep.TheVariants.{Fact, Suppose, Refuted}
use Rattle.s66_moments.specs.FactLines.{Line, Supposed}
use Rattle.s66_moments.specs.declared.fact_line.KnownArc.{KnownArc}
use Rattle.s66_moments.specs.Networks.{Network, same_moment, with_pair}
use Rattle.s66_moments.specs.KnownFacts.{Known, known_first, with_line, line_of, is_number, is_taken, arcs_of, plus, span, reaches}

-- it begins a supposition
abbrev pub begins_supposition : FactStep → Bool
begins_supposition (Fact line) = false
begins_supposition (Suppose m n) = true
begins_supposition Refuted = false

-- it begins or ends one
abbrev pub is_of_supposition : FactStep → Bool
is_of_supposition (Fact line) = false
is_of_supposition (Suppose m n) = true
is_of_supposition Refuted = true

-- it is to show that the first number stands before the second, by what was known when it began
pub record Supposition : Type 0 where
  pub first : ℕ
  pub second : ℕ
  pub outer : Known

-- what is known, with what is supposed, and the supposition that is open
pub record Premises : Type 0 where
  pub known : Known
  pub supposed : Option Supposition

-- with nothing supposed
abbrev pub premises_by : Known → Premises
premises_by known = record { known = known; supposed = None }

abbrev pub premises_first : Problem → Premises
premises_first b = premises_by (known_first b)

abbrev pub with_pair_known : Known → ℕ → ℕ → Known
with_pair_known known m n = record { before = with_pair known.before m n; loads = known.loads }

-- WHAT IS KNOWN after steps

-- n stands before m, to show that m stands before n
abbrev pub supposing : Known → ℕ → ℕ → Premises
supposing known m n = record { known = with_pair_known known n m; supposed = Some (record { first = m; second = n; outer = known }) }

-- what was known when it began, and what it shows
abbrev pub after_end : Premises → Option Supposition → Premises
after_end premises None = premises
after_end premises (Some s) = premises_by (with_pair_known s.outer s.first s.second)

abbrev pub with_step : Premises → FactStep → Premises
with_step premises (Fact line) = record { known = with_line premises.known line; supposed = premises.supposed }
with_step premises (Suppose m n) = supposing premises.known m n
with_step premises Refuted = after_end premises premises.supposed

abbrev pub premises_after : Premises → List FactStep → Premises
premises_after premises [] = premises
premises_after premises (step ∷ steps) = premises_after (with_step premises step) steps

-- WHICH STEPS ARE TAKEN

-- two numbers of which neither is known to stand before the other
abbrev pub may_be_supposed : Problem → Known → ℕ → ℕ → Bool
may_be_supposed b known m n =
    not (m == n) && is_number b m && is_number b n && not (known.before m n) && not (known.before n m)

-- the longest path through a stage of a number takes the bound at least
abbrev pub is_late_at : Problem → Network → ℕ → Stage → ℕ → Bool
is_late_at b arcs bound stage n = reaches bound (plus (span b arcs Origin (At n stage)) (span b arcs (At n stage) End))

abbrev pub is_late_through : Problem → Network → ℕ → ℕ → Bool
is_late_through b arcs bound n = is_late_at b arcs bound Issue n || is_late_at b arcs bound Start n

-- a load does, from the origin to the end
abbrev pub is_late_load : ℕ → KnownArc → Bool
is_late_load bound load = same_moment load.from Origin && same_moment load.to End && nat_le bound load.wait

-- by what is known no order takes less
abbrev pub is_late : Problem → ℕ → Known → Bool
is_late b bound known = some_of (is_late_through b (arcs_of b known) bound) (numbers b.block) || some_of (is_late_load bound) known.loads

-- a line by what is known and supposed; a supposition begins where none is open, and one that is ends where no order takes less
abbrev pub is_step_taken : Problem → ℕ → Premises → FactStep → Bool
is_step_taken b bound premises (Fact line) = is_taken b bound premises.known line
is_step_taken b bound premises (Suppose m n) = not (is_some premises.supposed) && may_be_supposed b premises.known m n
is_step_taken b bound premises Refuted = is_some premises.supposed && is_late b bound premises.known

abbrev pub are_steps_taken : Problem → ℕ → Premises → List FactStep → Bool
are_steps_taken b bound premises [] = true
are_steps_taken b bound premises (step ∷ steps) = is_step_taken b bound premises step && are_steps_taken b bound (with_step premises step) steps

-- WHAT THEY SHOW of all orders: nothing of what is known by what is supposed

-- a line where nothing is supposed, and at the end of a supposition its pair
abbrev pub shown_by : Problem → Premises → FactStep → List Line
shown_by b premises (Fact line) = if is_some premises.supposed then [] else line_of b line ∷ []
shown_by b premises (Suppose m n) = []
shown_by b premises Refuted = option_map_or (λ (s : Supposition). Supposed s.first s.second ∷ []) premises.supposed []

abbrev pub shown_by_all : Problem → Premises → List FactStep → List Line
shown_by_all b premises [] = []
shown_by_all b premises (step ∷ steps) = shown_by b premises step ++ shown_by_all b (with_step premises step) steps
