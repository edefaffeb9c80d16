use Rattle.std.proofs.Common.{ℕ, ◌++◌, ◌∙◌, [], List, ap, append_assoc}
use Rattle.std.proofs.lemmas.Result.{IfOk-equal}
use Rattle.s66_moments.specs.{premises_first}
use Rattle.s66_cert.specs.{tree_placed, document_of}
use Rattle.s66_checker.specs.{facts_of, problem_of}
use Rattle.s66_reasons.specs.{facts_from, faster_words, lines_text}
use Rattle.s66_reasons.proofs.reasons.push_by_facts.Goals as goal

pub returns : goal.returns
returns c =
    let d = document_of c.args.document.now in
    let out = c.args.out.now.items in
    let facts : List ℕ = facts_from d (premises_first (problem_of d)) 1 (facts_of d) in
    let faster : List ℕ = faster_words d.bound in
    let lines : List ℕ = lines_text d (tree_placed [] d.tree) in
    let to_faster = c.in_ok-push_faster.ensures ∙ ap (λ k. c.push_facts.new.out.items ++ faster_words k) c.bound.ensures ∙ ap (λ xs. xs ++ faster) c.in_ok-by_lines.ensures.text in
    IfOk-equal c.push_paragraphs.result _ _ _ c.push_paragraphs.ensures (ap (λ xs. xs ++ lines) (to_faster ∙ append_assoc out facts faster))
