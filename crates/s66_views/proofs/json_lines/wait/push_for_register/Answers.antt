use Rattle.std.proofs.Common.{◌++◌, ◌∙◌, ap, append_assoc, codes}
use Rattle.std.proofs.lemmas.Result.{IfOk-equal}
use Rattle.s66_views.specs.{json_register_text}
use Rattle.s66_views.proofs.json_lines.wait.push_for_register.Goals as goal

pub returns : goal.returns
returns c =
    let out = c.args.out.now.items in
    IfOk-equal c.push_register.result _ _ _ c.push_register.ensures
    (ap (λ zs. zs ++ json_register_text c.args.register) c.in_ok-push_text.ensures ∙ append_assoc out (codes ",\"for\":\"register\",\"name\":") (json_register_text c.args.register))
