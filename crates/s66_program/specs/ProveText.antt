-- To be believed: what `prove` writes for a source, and how it ends: for each block the document of an answer, of which there may be several.
use Rattle.std.specs.Prelude.{ℕ, ◌≡◌, List, [], ◌∷◌, Option}
use Rattle.s66_isa.specs.{Profile}
use Rattle.s66_model.specs.{Rule}
use Rattle.s66_command.specs.{Strategy}
use Rattle.s66_line.specs.{Block}
use Rattle.s66_source.specs.{Reading}
use Rattle.s66_cert.specs.{Document, document_text, documents_text}
use Rattle.s66_answer.specs.{Status, Answer, document_under, IsOfAnswers}

abbrev pub all_documents : Rule → Profile → List Block → List Answer → List Document
all_documents rule p (block ∷ blocks) (a ∷ answers) = document_under rule p block a ∷ all_documents rule p blocks answers
all_documents rule p blocks answers = []

-- what is kept of an answer to the n-th block, from 1
abbrev pub document_part : Strategy → Profile → ℕ → Block → Answer → List ℕ
document_part strategy p n block a = document_text (document_under strategy.search.rule p block a)

-- the documents of the blocks that are shown
abbrev pub IsProveOutput : Strategy → Profile → (only : Option ℕ) (source : Reading) (text : List ℕ) → Status → Type 0
IsProveOutput strategy p only source text status =
    IsOfAnswers (λ blocks answers. text ≡ documents_text (all_documents strategy.search.rule p blocks answers)) strategy p only source status
