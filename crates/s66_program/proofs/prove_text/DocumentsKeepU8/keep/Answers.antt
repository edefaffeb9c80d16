use Rattle.std.proofs.Common.{◌∙◌, ◌++◌, ap}
use Rattle.s66_cert.specs.{Document, document_text}
use Rattle.s66_program.proofs.prove_text.DocumentsKeepU8.keep.Goals as goal

pub returns : goal.returns
returns c = c.in_ok-push_document.ensures ∙ ap (λ (d : Document). c.args.parts.now.items ++ document_text d) c.in_ok-document.ensures.document
