use Rattle.std.proofs.Common.{arith}
use Rattle.s66_ledger.proofs.machine.Machine.workers.Goals as goal

pub overflow_cast-result : goal.overflow_cast-result
overflow_cast-result c = omega (arith, c.self.invariant.workers, c.len.ensures)
