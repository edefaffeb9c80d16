use Rattle.std.proofs.Common.{◌++◌, ◌∙◌, ap}
use Rattle.std.proofs.lemmas.Result.{IfOk-equal}
use Rattle.s66_reasons.proofs.Texts.{joined}
use Rattle.s66_reasons.proofs.facts.push_has.Goals as goal

pub returns : goal.returns
returns c =
    IfOk-equal c.push_between-2.result _ _ _ c.push_between-2.ensures
    (joined c.args.out.now.items _ _ _ _ _ c.in_ok-push_between.ensures
    (c.in_ok-extend_from_slice.ensures.items ∙ ap (λ xs. c.push_between.new.out.items ++ xs) c.unit_name.ensures))
