use Rattle.s66_cert.proofs.OneFault.{documents-or_fault, not-both, one-fault}
use Rattle.s66_cert.proofs.laws.reading_law.Goals as goal

pub returns : goal.returns
returns c = record { documents_or_fault = documents-or_fault; not_both = not-both; one_fault = one-fault }
