use Rattle.std.proofs.Common.{◌∙◌, [], sym}
use Rattle.s66_moments.specs.{premises_first}
use Rattle.s66_cert.specs.{document_of, tree_placed}
use Rattle.s66_checker.specs.{problem_of, facts_of, tree_line_number, fact_line_number, lines_verdict}
use Rattle.s66_checker.proofs.TakenLines.{facts-taken}
use Rattle.s66_checker.proofs.check.proof_verdict.Goals as goal

pub returns-in-Err : goal.returns-in-Err
returns-in-Err c = let d = document_of c.args.document.now in sym (c.in-Err.ensures.untaken (lines_verdict d (tree_line_number d) (tree_placed [] d.tree)))

pub returns-in-Ok : goal.returns-in-Ok
returns-in-Ok c =
    let d = document_of c.args.document.now in
    c.tree_verdict.ensures ∙ sym (facts-taken d (facts_of d) (fact_line_number d) 0 (premises_first (problem_of d)) (lines_verdict d (tree_line_number d) (tree_placed [] d.tree)) c.in-Ok.ensures.taken.each c.in-Ok.ensures.taken.closed)
