use Rattle.s66_isa.proofs.SetBits.{either-numbers}
use Rattle.s66_isa.proofs.set.Set.with_all.Goals as goal

pub returns : goal.returns
returns c = either-numbers c.args.self.now c.args.other.now
