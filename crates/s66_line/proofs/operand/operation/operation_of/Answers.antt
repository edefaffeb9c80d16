use Rattle.std.proofs.Common.{rules}
use Rattle.s66_line.proofs.Digits.{octal-few}
use Rattle.s66_line.proofs.OperationLaw.{IsOfTheTable-syntax_of}
use Rattle.s66_line.proofs.operand.operation.operation_of.Goals as goal

pub returns-in_ok-syntax-in-len3-clause-of_the_table : goal.returns-in_ok-syntax-in-len3-clause-of_the_table
returns-in_ok-syntax-in-len3-clause-of_the_table c = (
  IsOfTheTable-syntax_of c.upper_case_byte.result c.upper_case_byte-in-len3.result c.in_ok-syntax-in-len3.syntax (search rules),
  octal-few _ (search rules),
)
