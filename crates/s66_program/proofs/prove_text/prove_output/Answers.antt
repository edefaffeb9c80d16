use Rattle.std.proofs.Common.{refl}
use Rattle.std.proofs.lemmas.Result.{IfOk-weaker}
use Rattle.s66_cert.specs.{documents_text}
use Rattle.s66_answer.specs.{Output}
use Rattle.s66_answer.proofs.KeptParts.{kept-whole}
use Rattle.s66_program.specs.{all_documents, document_part}
use Rattle.s66_program.proofs.prove_text.prove_output.Goals as goal

pub returns : goal.returns
returns g c =
    let p = c.args.profile.now in
    let strategy = c.args.strategy in
    IfOk-weaker c.text_of_answers.result _ _
    (λ (output : Output). kept-whole (document_part strategy p) strategy p (λ n blocks answers. documents_text (all_documents strategy.search.rule p blocks answers)) (λ n. refl) (λ n b bs a more. refl) c.args.only c.args.source.now output.text.items output.status)
    c.text_of_answers.ensures
