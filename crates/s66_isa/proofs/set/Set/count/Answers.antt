use Rattle.std.proofs.Common.{arith}
use Rattle.s66_isa.proofs.SetBits.{count-numbers}
use Rattle.s66_isa.proofs.set.Set.count.Goals as goal

pub returns : goal.returns
returns c = count-numbers c.args.self.now (omega arith) (omega arith)
