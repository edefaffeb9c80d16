use Rattle.std.proofs.Common.{arith}
use Rattle.s66_isa.proofs.SetLowest.{low-out, high-out, none-left}
use Rattle.s66_isa.proofs.set.Set.pop_first.Goals as goal

pub returns-then-self-ne0-clause-some : goal.returns-then-self-ne0-clause-some
returns-then-self-ne0-clause-some c = low-out c.args.self.now (omega arith) (omega arith)

pub returns-then-self-ne0-2-clause-some : goal.returns-then-self-ne0-2-clause-some
returns-then-self-ne0-2-clause-some c = high-out c.args.self.now (omega arith) (omega arith) (omega arith)

pub returns-else-self-ne0-2-clause-none : goal.returns-else-self-ne0-2-clause-none
returns-else-self-ne0-2-clause-none c = none-left c.args.self.now (omega arith) (omega arith)
