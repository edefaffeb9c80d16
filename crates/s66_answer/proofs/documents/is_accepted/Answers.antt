use Rattle.std.proofs.Common.{◌∙◌, ap₂, sym}
use Rattle.s66_isa.specs.{BLOCK_LIMIT}
use Rattle.s66_cert.specs.{document_of}
use Rattle.s66_checker.specs.{Yes}
use Rattle.s66_checker.proofs.GrantedClaims.{verdict-claims}
use Rattle.s66_answer.proofs.documents.is_accepted.Goals as goal

pub returns-in-Yes : goal.returns-in-Yes
returns-in-Yes c =
    λ yes.
    let d = document_of c.args.document.now in
    let document = c.order-whole.ensures.whole.document in
    let said = sym c.verify.ensures.verdict ∙ c.in-Yes.is in
    let stated = verdict-claims BLOCK_LIMIT d c.in-Yes.time c.in-Yes.bound document said in
    record { document = document; yes = said ∙ ap₂ (λ time bound. Yes time bound) stated.0 stated.1 }
