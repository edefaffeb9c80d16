use Rattle.s66_isa.proofs.SetBits.{both-numbers}
use Rattle.s66_isa.proofs.set.Set.both.Goals as goal

pub returns : goal.returns
returns c = both-numbers c.args.self.now c.args.other.now
