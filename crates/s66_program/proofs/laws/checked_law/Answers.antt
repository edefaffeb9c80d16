use Rattle.s66_program.proofs.CheckedAnswers.{checked-alone, checked-yes}
use Rattle.s66_program.proofs.laws.checked_law.Goals as goal

pub returns-clause-yes : goal.returns-clause-yes
returns-clause-yes c = λ texts strategy p. checked-yes strategy p texts

pub returns-clause-alone : goal.returns-clause-alone
returns-clause-alone c = λ texts strategy p only source text lines status. checked-alone strategy p texts only source text status lines
