use Rattle.std.proofs.Common.{◌≡◌, ◌-◌, ◌++◌, ◌∙◌, ap, append_assoc, arith, codes, decimal, max}
use Rattle.std.proofs.lemmas.Result.{IfOk-equal}
use Rattle.s66_reasons.specs.{left_to}
use Rattle.s66_reasons.proofs.facts.push_last.Goals as goal

pub returns : goal.returns
returns c =
    let out = c.args.out.now.items in
    let to = c.args.to.now in
    let wait = c.args.wait in
    let front = codes "; so the last of them begins at " ++ decimal c.args.begins ++ codes " or later, and from there to " in
    let rest : c.saturating_sub.result ≡ wait - c.args.begins = omega (arith, c.saturating_sub.ensures) in
    let all : c.max.result ≡ max c.args.begins wait = c.max.ensures in
    IfOk-equal c.push_left_to.result _ _ _ c.push_left_to.ensures
    (ap (λ xs. xs ++ left_to to c.saturating_sub.result c.max.result) c.in_ok-push_between.ensures
    ∙ append_assoc out front (left_to to c.saturating_sub.result c.max.result)
    ∙ ap (λ k. out ++ (front ++ left_to to k c.max.result)) rest
    ∙ ap (λ k. out ++ (front ++ left_to to (wait - c.args.begins) k)) all)
