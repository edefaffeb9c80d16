-- To be believed: what `order` writes for a source, and how it ends: for each block that is shown an answer, of which there may be several.
use Rattle.std.specs.Prelude.{ℕ, suc, ◌≡◌, ◌==◌, ◌&&◌, if◌then◌else◌, Bool, true, List, [], ◌∷◌, ◌++◌, Option, Some, None, replicate}
use Rattle.s66_isa.specs.{Profile}
use Rattle.s66_model.specs.{source_time}
use Rattle.s66_command.specs.{OrderStyle, Strategy}
use Rattle.s66_line.specs.{Block}
use Rattle.s66_source.specs.{Reading, Placed, printed_in, Own, Usual}
use Rattle.s66_source.specs.declared.columns.Columns.{Columns}
use Rattle.s66_answer.specs.{Answer, problem_of, IsOfAnswers, before, Status}

-- HOW A BLOCK IS PRINTED by its answer

-- in the order of its answer; with the trace its splits are printed
abbrev pub placed_by : Profile → Bool → Block → Answer → Placed
placed_by p trace block a =
    record { order = a.order; source = source_time (problem_of p block); time = a.time; bound = a.bound; splits = if trace then Some a.splits else None }

-- the numbers are those from n on, one after the other
abbrev pub rise_from : ℕ → List ℕ → Bool
rise_from n [] = true
rise_from n (m ∷ ms) = m == n && rise_from (suc n) ms

-- or it stands, with `--keep`, if its order is the source's
abbrev pub given_by : Profile → OrderStyle → Block → Answer → Option Placed
given_by p style block a = if style.keep && rise_from 1 a.order then None else Some (placed_by p style.trace block a)

abbrev pub all_given : Profile → OrderStyle → List Block → List Answer → List (Option Placed)
all_given p style (block ∷ blocks) (a ∷ answers) = given_by p style block a ∷ all_given p style blocks answers
all_given p style blocks answers = []

-- what is kept of an answer to the n-th block, from 1
abbrev pub given_part : Profile → OrderStyle → ℕ → Block → Answer → List (Option Placed)
given_part p style n block a = given_by p style block a ∷ []

-- in which columns the operations of a block stand that is put in order, with `--columns` or without it
abbrev pub columns_by : Bool → Columns
columns_by own = if own then Own else Usual

-- what `order` writes: the source printed by answers to the blocks that are shown, all other blocks of which stand
abbrev pub IsOrdered : Strategy → Profile → OrderStyle → (only : Option ℕ) (source : Reading) (text : List ℕ) → Status → Type 0
IsOrdered strategy p style only source text status =
    IsOfAnswers (λ blocks answers. text ≡ printed_in style.quiet (columns_by style.columns) source (replicate (before only) None ++ all_given p style blocks answers)) strategy p only source status

-- EACH BLOCK PRINTED ANEW, as `sum` counts them

abbrev pub all_placed : Profile → Bool → List Block → List Answer → List Placed
all_placed p trace (block ∷ blocks) (a ∷ answers) = placed_by p trace block a ∷ all_placed p trace blocks answers
all_placed p trace blocks answers = []

-- what is kept of an answer to the n-th block, from 1
abbrev pub placed_part : Profile → (trace : Bool) → ℕ → Block → Answer → List Placed
placed_part p trace n block a = placed_by p trace block a ∷ []
