use Rattle.s66_line.proofs.CodeLaw.{instr_of-spellings}
use Rattle.s66_line.proofs.laws.code_law.Goals as goal

pub returns-clause-read : goal.returns-clause-read
returns-clause-read c = instr_of-spellings
