-- To be believed: what is written below a block's best order: sentences that say why no order is faster.
use Rattle.std.specs.Prelude.{ℕ, ◌==◌, if◌then◌else◌, List, []}
use Rattle.s66_isa.specs.{Profile}
use Rattle.s66_model.specs.{Rule}
use Rattle.s66_line.specs.{Block}
use Rattle.s66_reasons.specs.{reasons_text}
use Rattle.s66_answer.specs.{Answer, document_under}

-- those that `check --text` writes of the answer's document, if the answer is best
abbrev pub best_reasons : Rule → Profile → Block → Answer → List ℕ
best_reasons rule p block a = if a.bound == a.time then reasons_text (document_under rule p block a) else []
