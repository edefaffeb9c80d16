use Rattle.std.proofs.Common.{◌++◌, ◌∙◌, ap, codes, decimal}
use Rattle.std.proofs.lemmas.Result.{IfOk-equal}
use Rattle.s66_isa.specs.{Row}
use Rattle.s66_views.specs.{unit_text, work_text}
use Rattle.s66_views.proofs.Appended.{of-six}
use Rattle.s66_views.proofs.json_lines.instruction.push_work.Goals as goal

pub returns : goal.returns
unfolding work_text
returns c =
    let out = c.args.out.now.items in
    let r = c.row.inside in
    let name = codes ",\"unit\":" in
    let parcels = codes ",\"parcels\":" in
    let works = codes ",\"works\":" in
    let unit = unit_text r.kind in
    IfOk-equal c.push_field-2.result _ _ _ c.push_field-2.ensures
    (ap (λ zs. zs ++ works ++ decimal r.hold)
    (c.in_ok-push_field.ensures ∙ ap (λ zs. zs ++ parcels ++ decimal r.parcels) (c.in_ok-push_text-2.ensures ∙ ap (λ u. c.push_text.new.out.items ++ u) c.unit.ensures ∙ ap (λ zs. zs ++ unit) c.in_ok-push_text.ensures))
    ∙ of-six out name unit parcels (decimal r.parcels) works (decimal r.hold)
    ∙ ap (λ (q : Row). out ++ (name ++ (unit_text q.kind ++ (parcels ++ (decimal q.parcels ++ (works ++ decimal q.hold)))))) c.row.view_is)
