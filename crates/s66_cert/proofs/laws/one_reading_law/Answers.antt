use Rattle.s66_cert.proofs.OneReading.{one-document, one-list}
use Rattle.s66_cert.proofs.laws.one_reading_law.Goals as goal

pub returns : goal.returns
returns c = record { document = one-document; documents = one-list }
