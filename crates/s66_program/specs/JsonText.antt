-- To be believed: what `json` writes of a source, and how it ends: for each block a line of JSON, of the block as it was written and with `--order` also in the order of an answer of a search.
use Rattle.std.specs.Prelude.{ℕ, ◌≡◌, List, Option, None, Some}
use Rattle.serde_json.specs.Data.{null}
use Rattle.s66_isa.specs.{Profile}
use Rattle.s66_command.specs.{Strategy}
use Rattle.s66_line.specs.{instrs_of, Block}
use Rattle.s66_source.specs.{Reading}
use Rattle.s66_views.specs.{found_data, json_line}
use Rattle.s66_answer.specs.{Answer, problem_of, Status, IsOfAnswers, all_parts, before}
use Rattle.s66_program.specs.Entries.{entries_of, entry_at}
use Rattle.s66_program.specs.AsWritten.{as_written}
use Rattle.s66_program.specs.Listing.{IsListing}

-- of the n-th block, from 1, as it was written, by the names by which all are entered
abbrev pub written_line : (entries : List (List ℕ)) → Profile → ℕ → Block → List ℕ
written_line entries p n block = json_line n (entry_at entries n) block (as_written p (instrs_of block)) null

-- also in the order of an answer, with its bound and its splits
abbrev pub answer_line : (entries : List (List ℕ)) → Profile → ℕ → Block → Answer → List ℕ
answer_line entries p n block a =
    json_line n (entry_at entries n) block (as_written p (instrs_of block)) (found_data (record { problem = problem_of p block; numbers = a.order }) a.bound a.splits)

-- the lines of the blocks that are shown, as they were written, or also in the best orders that are found so
abbrev pub IsJsonOutput : Profile → Option Strategy → (only : Option ℕ) (source : Reading) (text : List ℕ) → Status → Type 0
IsJsonOutput p None only source text status = IsListing (written_line (entries_of source) p) only source text status
IsJsonOutput p (Some strategy) only source text status =
    IsOfAnswers (λ blocks answers. text ≡ all_parts (answer_line (entries_of source) p) (before only) blocks answers) strategy p only source status
