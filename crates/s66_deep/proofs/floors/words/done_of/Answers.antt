use Rattle.std.proofs.Common.{arith}
use Rattle.s66_model.proofs.Issue.{done_of-le-total}
use Rattle.s66_time.specs.{points}
use Rattle.s66_deep.proofs.floors.words.done_of.Goals as goal

pub returns : goal.returns
returns c = omega (arith, c.done_of.ensures, done_of-le-total (points c.args.clock.now) c.args.register, c.total.ensures.value, c.total.ensures.at_most)
