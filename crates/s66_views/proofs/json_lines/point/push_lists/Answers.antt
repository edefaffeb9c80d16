use Rattle.std.proofs.Common.{◌++◌, ◌∙◌, ap, codes}
use Rattle.std.proofs.lemmas.Result.{IfOk-equal}
use Rattle.s66_model.specs.{Point}
use Rattle.s66_views.specs.{lists_text, results_text, waits_text}
use Rattle.s66_views.proofs.Appended.{of-five}
use Rattle.s66_views.proofs.json_lines.point.push_lists.Goals as goal

pub returns : goal.returns
unfolding lists_text
returns c =
    let out = c.args.out.now.items in
    let first = codes ",\"results\":" in
    let results = results_text c.point.inside.results.items in
    let second = codes ",\"waits\":" in
    let waits = waits_text c.args.waits.now in
    let last = codes "}" in
    IfOk-equal c.push_text-3.result _ _ _ c.push_text-3.ensures
    (ap (λ zs. zs ++ last)
    (c.in_ok-push_waits.ensures
    ∙ ap (λ zs. zs ++ waits)
    (c.in_ok-push_text-2.ensures
    ∙ ap (λ zs. zs ++ second) (c.in_ok-push_results.ensures ∙ ap (λ rs. c.push_text.new.out.items ++ results_text rs) c.as_slice.ensures.value ∙ ap (λ zs. zs ++ results) c.in_ok-push_text.ensures)))
    ∙ of-five out first results second waits last
    ∙ ap (λ (p : Point). out ++ (first ++ (results_text p.results ++ (second ++ (waits ++ last))))) c.point.view_is)
