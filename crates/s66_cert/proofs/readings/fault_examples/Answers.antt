use Rattle.std.proofs.Common.{refl}
use Rattle.s66_cert.proofs.readings.fault_examples.Goals as goal

pub returns-clause-fact_line_4097 : goal.returns-clause-fact_line_4097
returns-clause-fact_line_4097 c = λ steps e. rw e refl
