use Rattle.std.proofs.Common.{◌++◌, ◌∙◌, ap, append_assoc, codes}
use Rattle.std.proofs.lemmas.Result.{IfOk-equal}
use Rattle.s66_views.specs.{unit_text}
use Rattle.s66_views.proofs.json_lines.wait.push_for_unit.Goals as goal

pub returns : goal.returns
returns c =
    let out = c.args.out.now.items in
    IfOk-equal c.push_text-2.result _ _ _ c.push_text-2.ensures
    (ap (λ u. c.push_text.new.out.items ++ u) c.unit.ensures ∙ ap (λ zs. zs ++ unit_text c.args.kind) c.in_ok-push_text.ensures ∙ append_assoc out (codes ",\"for\":\"unit\",\"name\":") (unit_text c.args.kind))
