use Rattle.s66_model.proofs.Beginnings.{front-beginning, beginning-front}
use Rattle.s66_model.proofs.legal_order.beginning_law.Goals as goal

pub returns : goal.returns
returns c = λ block prefix. (front-beginning block prefix, beginning-front block prefix)
