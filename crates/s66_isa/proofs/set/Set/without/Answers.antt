use Rattle.std.proofs.Common.{arith}
use Rattle.s66_isa.proofs.SetBits.{without-numbers}
use Rattle.s66_isa.proofs.set.Set.without.Goals as goal

pub returns : goal.returns
returns c = without-numbers c.args.self.now c.args.other.now (omega arith) (omega arith)
