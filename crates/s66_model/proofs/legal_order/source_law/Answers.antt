use Rattle.s66_model.proofs.Beginnings.{source-legal}
use Rattle.s66_model.proofs.legal_order.source_law.Goals as goal

pub returns : goal.returns
returns c = source-legal
