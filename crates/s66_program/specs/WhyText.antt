-- To be believed: what `why` writes of a source, and how it ends: for each block a line as that of `chart`, and what its instructions wait for, as the block was written or with `--order` in the order of an answer of a search, and below a best order why none is faster; with `--text` the text of each instruction stands beside its number.
use Rattle.std.specs.Prelude.{ℕ, Bool, ◌≡◌, List, ◌++◌, Option, None, Some}
use Rattle.s66_isa.specs.{Profile}
use Rattle.s66_model.specs.{Rule}
use Rattle.s66_command.specs.{Strategy}
use Rattle.s66_line.specs.{instrs_of, Block}
use Rattle.s66_source.specs.{Reading}
use Rattle.s66_time.specs.TimedOrder.{TimedOrder}
use Rattle.s66_why.specs.{why_text}
use Rattle.s66_answer.specs.{Answer, problem_of, Status, IsOfAnswers, all_parts, before}
use Rattle.s66_program.specs.BestReasons.{best_reasons}
use Rattle.s66_program.specs.AsWritten.{as_written}
use Rattle.s66_program.specs.BlockHead.{timed_line}
use Rattle.s66_program.specs.Listing.{IsListing}

-- of the n-th block, from 1, in an order
abbrev pub waits_lines : (texts : Bool) → ℕ → Block → TimedOrder → List ℕ
waits_lines texts n block t = timed_line n block t ++ why_text texts block t

-- as it was written
abbrev pub why_lines : Profile → (texts : Bool) → ℕ → Block → List ℕ
why_lines p texts n block = waits_lines texts n block (as_written p (instrs_of block))

-- in the order of an answer, whose numbers are those of the source
abbrev pub answer_lines : (texts : Bool) → Rule → Profile → ℕ → Block → Answer → List ℕ
answer_lines texts rule p n block a =
    waits_lines texts n block (record { problem = problem_of p block; numbers = a.order }) ++ best_reasons rule p block a

-- what is kept of an answer to the n-th block
abbrev pub waits_part : (texts : Bool) → Strategy → Profile → ℕ → Block → Answer → List ℕ
waits_part texts strategy = answer_lines texts strategy.search.rule

-- the lines of the blocks that are shown, as they were written, or in the best orders that are found so
abbrev pub IsWhyOutput : Profile → Option Strategy → (texts : Bool) (only : Option ℕ) (source : Reading) (text : List ℕ) → Status → Type 0
IsWhyOutput p None texts only source text status = IsListing (why_lines p texts) only source text status
IsWhyOutput p (Some strategy) texts only source text status =
    IsOfAnswers (λ blocks answers. text ≡ all_parts (answer_lines texts strategy.search.rule p) (before only) blocks answers) strategy p only source status
