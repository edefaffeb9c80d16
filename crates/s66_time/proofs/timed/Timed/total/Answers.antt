use Rattle.std.proofs.Common.{arith}
use Rattle.s66_time.proofs.Positions.{total-small}
use Rattle.s66_time.proofs.timed.Timed.total.Goals as goal

pub returns-clause-at_most : goal.returns-clause-at_most
returns-clause-at_most c =
    omega (arith, c.self.invariant.total, total-small (record { block = c.self.inside.order.block; profile = c.self.inside.profile }) c.self.inside.order.numbers c.self.invariant.few)
