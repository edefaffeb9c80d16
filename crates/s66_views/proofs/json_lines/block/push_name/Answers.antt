use Rattle.std.proofs.Common.{◌++◌, ◌∙◌, ap, codes, decimal}
use Rattle.std.proofs.lemmas.Result.{IfOk-equal}
use Rattle.s66_views.specs.{label_text, name_of_block}
use Rattle.s66_views.proofs.Appended.{of-six}
use Rattle.s66_views.proofs.json_lines.block.push_name.Goals as goal

pub returns : goal.returns
unfolding name_of_block
returns c =
    let out = c.args.out.now.items in
    let start = codes "{\"schema\":1,\"block\":" in
    let label = codes ",\"label\":" in
    let entry = codes ",\"entry\":" in
    let n = decimal c.args.number in
    let text = label_text c.args.label.now in
    let name = label_text c.args.entry.now in
    IfOk-equal c.push_label-2.result _ _ _ c.push_label-2.ensures
    (ap (λ zs. zs ++ name)
    (c.in_ok-push_text-2.ensures ∙ ap (λ zs. zs ++ entry) (c.in_ok-push_label.ensures ∙ ap (λ zs. zs ++ text) (c.in_ok-push_text.ensures ∙ ap (λ zs. zs ++ label) c.in_ok-push_field.ensures)))
    ∙ of-six out start n label text entry name)
