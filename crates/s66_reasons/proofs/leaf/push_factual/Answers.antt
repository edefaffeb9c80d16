use Rattle.std.proofs.Common.{◌++◌, ◌∙◌, ap, sym, append-nil}
use Rattle.std.proofs.lemmas.Result.{IfOk-equal}
use Rattle.s66_model.specs.declared.lines.FactLeaf.{FactLeaf}
use Rattle.s66_model.specs.{Factual, fact_leaf_of}
use Rattle.s66_cert.specs.{Parts, document_of}
use Rattle.s66_reasons.specs.{leaf_text, left_row, row_text}
use Rattle.s66_reasons.proofs.leaf.push_factual.Goals as goal

pub returns-in-LoadFrom : goal.returns-in-LoadFrom
returns-in-LoadFrom c =
    let d = document_of c.args.known.now in
    let out = c.args.out.now.items in
    IfOk-equal c.push_left_row.result _ _ _ c.push_left_row.ensures
    (ap (λ (p : Parts). out ++ row_text (left_row (document_of p) c.in-LoadFrom.after c.in-LoadFrom.numbers.now)) c.known.view_is
    ∙ ap (λ xs. out ++ xs) (sym (append-nil (row_text (left_row d c.in-LoadFrom.after c.in-LoadFrom.numbers.now))))
    ∙ ap (λ (l : FactLeaf). out ++ leaf_text d c.args.prefix.now.numbers (Factual (fact_leaf_of l))) (sym c.in-LoadFrom.is))
