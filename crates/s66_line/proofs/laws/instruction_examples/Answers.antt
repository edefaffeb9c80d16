use Rattle.std.proofs.Common.{rules}
use Rattle.s66_line.proofs.InstructionTexts.{instruction}
use Rattle.s66_line.proofs.laws.instruction_examples.Goals as goal

pub returns-clause-no_operand : goal.returns-clause-no_operand
returns-clause-no_operand c = search (rules, instruction)

pub returns-clause-both_registers : goal.returns-clause-both_registers
returns-clause-both_registers c = search (rules, instruction)

pub returns-clause-product_of_constants : goal.returns-clause-product_of_constants
returns-clause-product_of_constants c = search (rules, instruction)

pub returns-clause-minus_in_front : goal.returns-clause-minus_in_front
returns-clause-minus_in_front c = search (rules, instruction)

pub returns-clause-plus_in_front : goal.returns-clause-plus_in_front
returns-clause-plus_in_front c = search (rules, instruction)
