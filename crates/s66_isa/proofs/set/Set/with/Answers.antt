use Rattle.std.proofs.Common.{arith}
use Rattle.s66_isa.proofs.SetBits.{with-low, with-high}
use Rattle.s66_isa.proofs.set.Set.with.Goals as goal

pub returns-then-n-le64 : goal.returns-then-n-le64
returns-then-n-le64 c = with-low c.args.self c.args.n (omega arith) (omega arith)

pub returns-else-n-le64 : goal.returns-else-n-le64
returns-else-n-le64 c = with-high c.args.self c.args.n (omega arith) (omega arith)
