use Rattle.std.proofs.Common.{◌++◌, ◌∙◌, ap, ap₂, codes, decimal}
use Rattle.std.proofs.lemmas.Result.{IfOk-equal}
use Rattle.s66_line.specs.{line_of}
use Rattle.s66_views.specs.{json_lines_text}
use Rattle.s66_views.proofs.Appended.{of-four}
use Rattle.s66_views.proofs.json_lines.block.push_lines.Goals as goal

pub returns : goal.returns
unfolding json_lines_text
returns c =
    let out = c.args.out.now.items in
    let block = c.args.block.now in
    let first = codes ",\"line\":" in
    let last = codes ",\"last_line\":" in
    IfOk-equal c.push_field-2.result _ _ _ c.push_field-2.ensures
    (ap (λ zs. zs ++ last ++ decimal c.line-2.result) c.in_ok-push_field.ensures ∙ of-four out first (decimal c.line.result) last (decimal c.line-2.result)
    ∙ ap₂ (λ n m. out ++ (first ++ (decimal n ++ (last ++ decimal m)))) c.line.ensures (c.line-2.ensures ∙ ap (line_of block) c.count-count.ensures.value))
