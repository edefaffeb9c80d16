use Rattle.std.proofs.Common.{◌++◌, ◌∙◌, ap, codes, decimal}
use Rattle.std.proofs.lemmas.Result.{IfOk-equal}
use Rattle.s66_views.specs.{lost_text}
use Rattle.s66_views.proofs.Appended.{of-seven}
use Rattle.s66_views.proofs.json_lines.order.push_lost.Goals as goal

pub returns : goal.returns
unfolding lost_text
returns c =
    let out = c.args.out.now.items in
    let l = c.args.sums.now in
    let first = codes ",\"lost\":{\"first\":" in
    let second = codes ",\"second\":" in
    let third = codes ",\"third\":" in
    let last = codes "}" in
    IfOk-equal c.push_text.result _ _ _ c.push_text.ensures
    (ap (λ zs. zs ++ last)
    (c.in_ok-push_field-3.ensures ∙ ap (λ zs. zs ++ third ++ decimal l.third) (c.in_ok-push_field-2.ensures ∙ ap (λ zs. zs ++ second ++ decimal l.second) c.in_ok-push_field.ensures))
    ∙ of-seven out first (decimal l.first) second (decimal l.second) third (decimal l.third) last)
