use Rattle.std.proofs.Common.{◌++◌, ◌∙◌, ap, codes, decimal}
use Rattle.std.proofs.lemmas.Result.{IfOk-equal}
use Rattle.s66_views.specs.{numbers_text}
use Rattle.s66_views.specs.Pieces.{order_text}
use Rattle.s66_views.proofs.Appended.{of-seven}
use Rattle.s66_views.proofs.json_lines.order.push_order_numbers.Goals as goal

pub returns : goal.returns
unfolding order_text
returns c =
    let out = c.args.out.now.items in
    let first = codes "{\"time\":" in
    let time = decimal c.args.time in
    let second = codes ",\"no\":" in
    let filled = decimal c.args.fillers in
    let third = codes ",\"order\":" in
    let numbers = numbers_text c.args.numbers.now in
    let last = codes ",\"at\":[" in
    IfOk-equal c.push_text-2.result _ _ _ c.push_text-2.ensures
    (ap (λ zs. zs ++ last)
    (c.in_ok-push_numbers.ensures
    ∙ ap (λ zs. zs ++ numbers) (c.in_ok-push_text.ensures ∙ ap (λ zs. zs ++ third) (c.in_ok-push_field-2.ensures ∙ ap (λ zs. zs ++ second ++ filled) c.in_ok-push_field.ensures)))
    ∙ of-seven out first time second filled third numbers last)
