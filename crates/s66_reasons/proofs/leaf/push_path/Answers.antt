use Rattle.std.proofs.Common.{ℕ, ◌++◌, ◌∙◌, List, ap, append_assoc}
use Rattle.std.proofs.lemmas.Result.{IfOk-equal}
use Rattle.s66_moments.specs.{At, Issue}
use Rattle.s66_cert.specs.{Parts, document_of}
use Rattle.s66_reasons.specs.{hops_of, path_rows, row_text, rows_text, issue_row}
use Rattle.s66_reasons.proofs.leaf.push_path.Goals as goal

pub returns : goal.returns
returns c =
    let d = document_of c.args.known.now in
    let first : List ℕ = row_text (issue_row d c.args.n) in
    let path : List ℕ = rows_text (path_rows d 0 (At c.args.n Issue) (hops_of d c.args.n)) in
    IfOk-equal c.push_longest.result _ _ _ c.push_longest.ensures
    (ap (λ xs. xs ++ path) (c.in_ok-push_issue_row.ensures ∙ ap (λ (p : Parts). c.args.out.now.items ++ row_text (issue_row (document_of p) c.args.n)) c.known.view_is) ∙ append_assoc c.args.out.now.items first path)
