use Rattle.std.proofs.Common.{ℕ, ◌+◌, ◌≡◌, ◌∙◌, List, ◌++◌, ap, append_assoc, codes, decimal}
use Rattle.std.proofs.lemmas.Result.{IfOk-equal}
use Rattle.s66_reasons.proofs.facts.push_rest.Goals as goal

of-four : (o a b c d : List ℕ) → o ++ a ++ b ++ c ++ d ≡ o ++ (a ++ b ++ c ++ d)
of-four o a b c d = ap (λ xs. xs ++ c ++ d) (append_assoc o a b) ∙ ap (λ xs. xs ++ d) (append_assoc o (a ++ b) c) ∙ append_assoc o (a ++ b ++ c) d

pub returns : goal.returns
returns c =
    let out = c.args.out.now.items in
    let front = codes ", and from there to the end it is " in
    let middle = codes " or more: " in
    let all : ℕ = c.args.until + c.args.rest in
    IfOk-equal c.push_field-2.result _ _ _ c.push_field-2.ensures
    (ap (λ xs. xs ++ middle ++ decimal all) c.in_ok-push_field.ensures
    ∙ of-four out front (decimal c.args.rest) middle (decimal all))
