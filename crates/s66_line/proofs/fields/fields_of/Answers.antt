use Rattle.s66_line.proofs.LineFields.{label-cut}
use Rattle.s66_line.proofs.fields.fields_of.Goals as goal

pub returns-clause-label : goal.returns-clause-label
returns-clause-label c = rw (c.split_word.ensures.word, c.from_location_column-begin.ensures.value) (label-cut c.args.line.now)
