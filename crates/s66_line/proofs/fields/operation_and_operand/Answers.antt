use Rattle.s66_line.proofs.LineFields.{spelling-fits}
use Rattle.s66_line.proofs.fields.operation_and_operand.Goals as goal

pub returns-clause-both_within : goal.returns-clause-both_within
returns-clause-both_within c = rw (c.next_word.ensures.value, c.split_word.ensures.rest, c.split_word.ensures.word) (spelling-fits c.args.bytes.now)
