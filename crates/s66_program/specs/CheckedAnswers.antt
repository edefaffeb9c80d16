-- To be believed: what `check` writes for what `prove` wrote, without `--text` or with it.
use Rattle.std.specs.Prelude.{ℕ, ◌+◌, ◌≡◌, Bool, true, false, List, [], ◌∷◌, ◌++◌, Ok, Option}
use Rattle.s66_isa.specs.{Profile}
use Rattle.s66_command.specs.{Strategy}
use Rattle.s66_line.specs.{Block}
use Rattle.s66_source.specs.{Reading, source_of}
use Rattle.s66_cert.specs.{Document, documents_text}
use Rattle.s66_checker.specs.{Yes}
use Rattle.s66_reasons.specs.{reasons_text}
use Rattle.s66_answer.specs.{Answer, AreAnswers, shown}
use Rattle.s66_program.specs.CheckText.{verdict_line}
use Rattle.s66_program.specs.ProveText.{all_documents}

-- YES for the n-th answer, with its time and its bound, and below it why no order is faster, by its document
abbrev pub yes_text : (texts : Bool) → ℕ → Answer → Document → List ℕ
yes_text false n a d = verdict_line n (Yes a.time a.bound)
yes_text true n a d = verdict_line n (Yes a.time a.bound) ++ reasons_text d

-- of each answer, with its document; before these answers n come
abbrev pub yes_lines : (texts : Bool) → ℕ → List Answer → List Document → List ℕ
yes_lines texts n (a ∷ answers) (d ∷ ds) = yes_text texts (n + 1) a d ++ yes_lines texts (n + 1) answers ds
yes_lines texts n answers ds = []

-- for some answers, of whose documents it is the text, these lines are YES for each
abbrev pub AreYesLines : (texts : Bool) → Strategy → Profile → (only : Option ℕ) (source : Reading) (text lines : List ℕ) → Type 0
AreYesLines texts strategy p only source text lines =
    (blocks : List Block) × (source_of source ≡ Ok blocks)
    × ((answers : List Answer) × AreAnswers strategy p (shown only blocks) answers × (text ≡ documents_text (all_documents strategy.search.rule p (shown only blocks) answers))
    × (lines ≡ yes_lines texts 0 answers (all_documents strategy.search.rule p (shown only blocks) answers)))
