use Rattle.std.proofs.Common.{rules, OnOk, ◌≡◌, ◌++◌, ℕ, List, codes, ap, ◌∙◌, append_assoc}
use Rattle.std.proofs.lemmas.Result.{on_ok_weaker}
use Rattle.s66_lint.specs.{after_blank}
use Rattle.s66_lint.proofs.guard.guard.push_reason.Goals as goal

pub returns : goal.returns
returns c =
    let out : List ℕ = c.args.out.now.items in
    let start : List ℕ = codes "*S66 OFF GUARD" in
    let word : List ℕ = after_blank c.shown.result.now in
    let ended : OnOk c.extend_from_slice-2.result (c.extend_from_slice-2.new.self.items ≡ c.push_word.new.out.items ++ codes "\n") = search rules in
    on_ok_weaker c.extend_from_slice-2.result (λ (last : c.extend_from_slice-2.new.self.items ≡ c.push_word.new.out.items ++ codes "\n").
    last
    ∙ ap (λ text. text ++ codes "\n") (c.in_ok-push_word.ensures ∙ ap (λ text. text ++ word) c.in_ok-extend_from_slice.ensures.items ∙ append_assoc out start word)
    ∙ append_assoc out (start ++ word) (codes "\n")
    ∙ ap (λ shown. out ++ ((start ++ after_blank shown) ++ codes "\n")) c.shown.ensures)
    ended
