-- To be believed: what `page` writes for a source, and how it ends: a page that shows each block in its source order and by an answer of a search of its orders, and why no order is faster than a best one.
use Rattle.std.specs.Prelude.{ℕ, ◌+◌, ◌≡◌, List, [], ◌∷◌, Option}
use Rattle.s66_isa.specs.{Profile}
use Rattle.s66_model.specs.{Rule}
use Rattle.s66_command.specs.{Strategy}
use Rattle.s66_line.specs.{instrs_of, Block}
use Rattle.s66_source.specs.{Reading}
use Rattle.s66_views.specs.{FoundOrder, page_text}
use Rattle.s66_answer.specs.{Answer, Status, IsOfAnswers, before}
use Rattle.s66_program.specs.Entries.{entries_of, entry_at}
use Rattle.s66_program.specs.BestReasons.{best_reasons}

-- what a page shows of an answer to a block, which is entered by this name: its order, its bound, and why no order is faster if it is best
abbrev pub found_by : (entry : List ℕ) → Rule → Profile → Block → Answer → FoundOrder
found_by entry rule p block a =
    record {
      entry = entry;
      order = record { block = instrs_of block; numbers = a.order };
      bound = a.bound;
      reasons = best_reasons rule p block a;
    }

-- of these blocks, before which n come, by the names by which all are entered
abbrev pub all_found : (entries : List (List ℕ)) → Rule → Profile → ℕ → List Block → List Answer → List FoundOrder
all_found entries rule p n (block ∷ blocks) (a ∷ answers) = found_by (entry_at entries (n + 1)) rule p block a ∷ all_found entries rule p (n + 1) blocks answers
all_found entries rule p n blocks answers = []

-- what is kept of an answer to the n-th block, from 1
abbrev pub found_part : (entries : List (List ℕ)) → Strategy → Profile → ℕ → Block → Answer → List FoundOrder
found_part entries strategy p n block a = found_by (entry_at entries n) strategy.search.rule p block a ∷ []

-- the page of the blocks that are shown
abbrev pub IsPageOutput : Strategy → Profile → (only : Option ℕ) (source : Reading) (text : List ℕ) → Status → Type 0
IsPageOutput strategy p only source text status =
    IsOfAnswers (λ blocks answers. text ≡ page_text p (before only) blocks (all_found (entries_of source) strategy.search.rule p (before only) blocks answers)) strategy p only source status
