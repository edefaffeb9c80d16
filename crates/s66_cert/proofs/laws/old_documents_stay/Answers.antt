use Rattle.std.proofs.Common.{arith}
use Rattle.s66_cert.specs.{SPLIT_LIMIT}
use Rattle.s66_cert.proofs.InRange.{wide-text}
use Rattle.s66_cert.proofs.laws.old_documents_stay.Goals as goal

pub returns-clause-stay : goal.returns-clause-stay
returns-clause-stay c = wide-text 64 128 (omega arith) SPLIT_LIMIT
