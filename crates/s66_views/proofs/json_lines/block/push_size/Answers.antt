use Rattle.std.proofs.Common.{◌++◌, ◌∙◌, ap, ap₂, codes, decimal}
use Rattle.std.proofs.lemmas.Result.{IfOk-equal}
use Rattle.s66_views.specs.{size_text}
use Rattle.s66_views.proofs.Appended.{of-four}
use Rattle.s66_views.proofs.json_lines.block.push_size.Goals as goal

pub returns : goal.returns
unfolding size_text
returns c =
    let out = c.args.out.now.items in
    let count = codes ",\"count\":" in
    let parcels = codes ",\"parcels\":" in
    IfOk-equal c.push_field-2.result _ _ _ c.push_field-2.ensures
    (ap (λ zs. zs ++ parcels ++ decimal c.parcels.result) c.in_ok-push_field.ensures ∙ of-four out count (decimal c.count.result) parcels (decimal c.parcels.result)
    ∙ ap₂ (λ n m. out ++ (count ++ (decimal n ++ (parcels ++ decimal m)))) c.count.ensures.value c.parcels.ensures.value)
