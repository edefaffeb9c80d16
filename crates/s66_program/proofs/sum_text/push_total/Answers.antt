use Rattle.std.proofs.Common.{◌++◌, ◌∙◌, ap, codes, decimal}
use Rattle.std.proofs.lemmas.Result.{IfOk-equal}
use Rattle.s66_program.specs.{line_end, total_times}
use Rattle.s66_program.proofs.Pieces.{gathered}
use Rattle.s66_program.proofs.sum_text.push_total.Goals as goal

pub returns : goal.returns
returns c =
    let total = c.args.total.now in
    let ends = line_end c.args.words total.ending in
    IfOk-equal c.push_line_end.result _ _ _ c.push_line_end.ensures
    (ap (λ text. text ++ ends) (c.in_ok-push_field.ensures ∙ ap (λ text. text ++ codes " BEST " ++ decimal total.best) c.in_ok-push_total_times.ensures)
    ∙ gathered c.args.out.now.items (total_times total) (codes " BEST ") (decimal total.best) ends)
