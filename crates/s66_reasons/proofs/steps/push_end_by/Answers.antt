use Rattle.std.proofs.Common.{◌++◌, ◌∙◌, ap, append_assoc, codes, decimal}
use Rattle.std.proofs.lemmas.Result.{IfOk-equal}
use Rattle.s66_reasons.proofs.steps.push_end_by.Goals as goal

pub returns : goal.returns
returns c =
    let out = c.args.out.now.items in
    let front = codes "the end comes at " ++ decimal c.args.wait ++ codes " or later, by " in
    let last = decimal c.args.number ++ codes "." in
    IfOk-equal c.push_between-2.result _ _ _ c.push_between-2.ensures
    (ap (λ xs. xs ++ last) c.in_ok-push_between.ensures ∙ append_assoc out front last)
