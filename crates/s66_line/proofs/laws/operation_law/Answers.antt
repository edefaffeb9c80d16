use Rattle.s66_line.proofs.OperationLaw.{CanMean-instr_of}
use Rattle.s66_line.proofs.laws.operation_law.Goals as goal

pub returns : goal.returns
returns c = CanMean-instr_of
