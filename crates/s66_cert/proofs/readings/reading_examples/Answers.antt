use Rattle.std.proofs.Common.{refl}
use Rattle.s66_cert.proofs.readings.reading_examples.Goals as goal

pub returns-clause-fact_line_4096 : goal.returns-clause-fact_line_4096
returns-clause-fact_line_4096 c = λ steps e. rw e refl
