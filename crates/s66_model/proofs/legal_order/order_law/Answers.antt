use Rattle.s66_model.proofs.LegalOrders.{legal-order, order-legal}
use Rattle.s66_model.proofs.legal_order.order_law.Goals as goal

pub returns : goal.returns
returns c = λ block order. (legal-order block order, order-legal block order)
