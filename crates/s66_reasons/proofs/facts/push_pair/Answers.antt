use Rattle.std.proofs.Common.{ℕ, ◌++◌, ◌∙◌, List, ap, append_assoc}
use Rattle.std.proofs.lemmas.Result.{IfOk-equal}
use Rattle.s66_model.specs.{Problem}
use Rattle.s66_moments.specs.{arcs_of}
use Rattle.s66_facts.specs.{known_of as known_in}
use Rattle.s66_cert.specs.{document_of}
use Rattle.s66_reasons.specs.{late_words, pair_words}
use Rattle.s66_reasons.proofs.facts.push_pair.Goals as goal

pub returns : goal.returns
returns c =
    let d = document_of c.args.document.now in
    let out = c.args.out.now.items in
    let known = known_in c.args.facts.now in
    let m = c.args.m in
    let n = c.args.n in
    let words : List ℕ = pair_words d m n in
    let late : Problem → ℕ → List ℕ = λ q k. late_words q k (arcs_of q known) m n in
    IfOk-equal c.push_late.result _ _ _ c.push_late.ensures
    (ap (λ xs. xs ++ late c.args.facts.now.problem c.bound.result) c.in_ok-push_pair_words.ensures
    ∙ append_assoc out words (late c.args.facts.now.problem c.bound.result)
    ∙ ap (λ k. out ++ (words ++ late c.args.facts.now.problem k)) c.bound.ensures
    ∙ ap (λ (q : Problem). out ++ (words ++ late q d.bound)) c.requires.problem)
