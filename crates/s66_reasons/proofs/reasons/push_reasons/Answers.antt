use Rattle.std.proofs.Common.{ℕ, ◌++◌, ◌∙◌, List, ap}
use Rattle.std.proofs.lemmas.Result.{IfOk-equal}
use Rattle.s66_cert.specs.{Document, document_of}
use Rattle.s66_checker.proofs.GrantedClaims.{granted}
use Rattle.s66_reasons.specs.{closing_line, opening_words, tree_text}
use Rattle.s66_reasons.proofs.Claimed.{right}
use Rattle.s66_reasons.proofs.Texts.{joined}
use Rattle.s66_reasons.proofs.reasons.push_reasons.Goals as goal

pub push_tree-requires-clause-right : goal.push_tree-requires-clause-right
push_tree-requires-clause-right c = right (document_of c.args.document.now) c.args.time c.args.bound c.block.ensures.whole.document c.requires

pub returns : goal.returns
returns c =
    let d : Document = document_of c.args.document.now in
    let out = c.args.out.now.items in
    let time = c.args.time in
    let bound = c.args.bound in
    let (time_is, bound_is, all) = (granted d time bound).0 c.requires in
    let said : ℕ → ℕ → List ℕ = λ t b. out ++ (opening_words d ++ tree_text d ++ closing_line t b) in
    IfOk-equal c.push_last_line.result _ _ _ c.push_last_line.ensures
    (joined out _ _ (opening_words d) (tree_text d) (closing_line time bound) c.in_ok-push_opening.ensures c.in_ok-push_tree.ensures
    ∙ ap (λ k. said k bound) time_is
    ∙ ap (λ k. said d.time k) bound_is)
