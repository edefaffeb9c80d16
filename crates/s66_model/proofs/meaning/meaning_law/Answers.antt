use Rattle.s66_model.proofs.MeaningOfOrders.{legal-meaning}
use Rattle.s66_model.proofs.meaning.meaning_law.Goals as goal

pub returns : goal.returns
returns c = legal-meaning
