use Rattle.std.proofs.Common.{rules, ◌≡◌, ◌≤◌, sym, subst, ◌∙◌}
use Rattle.s66_isa.specs.{BLOCK_LIMIT}
use Rattle.s66_model.specs.{total_of}
use Rattle.s66_cert.specs.{Document, document_of}
use Rattle.s66_checker.specs.{problem_of, verdict}
use Rattle.s66_checker.proofs.GrantedClaims.{verdict-claims, claim-bound}
use Rattle.s66_checker.proofs.check.verify.Goals as goal

pub returns-clause-claim : goal.returns-clause-claim
returns-clause-claim c = λ time bound h.
    let d : Document = document_of c.args.document.now in
    let e : c.proof_verdict.result ≡ verdict d = search rules in
    (verdict-claims BLOCK_LIMIT d time bound c.block.ensures.whole.document (sym e ∙ h)).2

pub returns-clause-bound : goal.returns-clause-bound
returns-clause-bound c = λ time bound h order legal.
    let d : Document = document_of c.args.document.now in
    let e : c.proof_verdict.result ≡ verdict d = search rules in
    let said = verdict-claims BLOCK_LIMIT d time bound c.block.ensures.whole.document (sym e ∙ h) in
    subst (λ low. low ≤ total_of (problem_of d) order) (sym said.1) (claim-bound d said.2 order legal)
