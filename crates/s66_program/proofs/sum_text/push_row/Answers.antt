use Rattle.std.proofs.Common.{◌++◌, ◌∙◌, ap, append_assoc, codes, decimal}
use Rattle.std.proofs.lemmas.Result.{IfOk-equal}
use Rattle.s66_program.specs.{sum_bound_text, row_end}
use Rattle.s66_program.proofs.Pieces.{regrouped}
use Rattle.s66_program.proofs.sum_text.push_row.Goals as goal

pub returns : goal.returns
returns c =
    let r = c.args.row.now in
    let out = c.args.out.now.items in
    let head = codes "BLOCK " ++ decimal r.number ++ codes " LINE " ++ decimal r.line ++ codes " COUNT " ++ decimal r.count in
    let times = head ++ codes " SOURCE " ++ decimal r.source ++ codes " TIME " ++ decimal r.time ++ sum_bound_text r in
    let ends = row_end c.args.words c.args.closed c.args.entry.now r in
    IfOk-equal c.push_row_end.result _ _ _ c.push_row_end.ensures
    (ap (λ text. text ++ ends)
    (c.in_ok-push_bound.ensures ∙ ap (λ text. text ++ sum_bound_text r)
    (c.in_ok-push_field-5.ensures ∙ ap (λ text. text ++ codes " TIME " ++ decimal r.time)
    (c.in_ok-push_field-4.ensures ∙ ap (λ text. text ++ codes " SOURCE " ++ decimal r.source)
    (c.in_ok-push_field-3.ensures ∙ ap (λ text. text ++ codes " COUNT " ++ decimal r.count)
    (c.in_ok-push_field-2.ensures ∙ ap (λ text. text ++ codes " LINE " ++ decimal r.line) c.in_ok-push_field.ensures)
    ∙ regrouped out (codes "BLOCK ") (decimal r.number) (codes " LINE ") (decimal r.line) (codes " COUNT ") (decimal r.count))))
    ∙ regrouped out head (codes " SOURCE ") (decimal r.source) (codes " TIME ") (decimal r.time) (sum_bound_text r))
    ∙ append_assoc out times ends)
