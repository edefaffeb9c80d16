use Rattle.s66_model.proofs.WrittenOrders.{written-order}
use Rattle.s66_model.proofs.timing.written_order_law.Goals as goal

pub returns : goal.returns
returns c = written-order
