use Rattle.s66_why.proofs.Numbers.{among-item}
use Rattle.s66_why.proofs.text.push_lines.Goals as goal

pub push_line-requires-clause-number : goal.push_line-requires-clause-number
push_line-requires-clause-number c =
    (c.requires.numbers c.stretch-item.result (among-item c.args.waits.now c.loop-stretch.stretch-index c.stretch-item.result c.loop-stretch-test.true c.stretch-item.is)).0

pub push_line-requires-clause-holder : goal.push_line-requires-clause-holder
push_line-requires-clause-holder c =
    (c.requires.numbers c.stretch-item.result (among-item c.args.waits.now c.loop-stretch.stretch-index c.stretch-item.result c.loop-stretch-test.true c.stretch-item.is)).1
