use Rattle.std.proofs.Common.{map, Vec, Global}
use Rattle.s66_cert.specs.{document_of}
use Rattle.s66_cert.specs.declared.document.Document.{Document}
use Rattle.s66_cert.proofs.ReadGives.{gives-documents, gives-fault}
use Rattle.s66_cert.proofs.reading.read.Goals as goal

pub returns-clause-documents : goal.returns-clause-documents
returns-clause-documents c = gives-documents (λ (ds : Vec Document Global). map document_of ds.items) c.args.text.now c.read_lines.result c.read_lines.ensures

pub returns-clause-fault : goal.returns-clause-fault
returns-clause-fault c = gives-fault (λ (ds : Vec Document Global). map document_of ds.items) c.args.text.now c.read_lines.result c.read_lines.ensures
