use Rattle.s66_model.proofs.SameSet.{ready-same, remaining-same, sum_remaining-same}
use Rattle.s66_model.proofs.legal_order.same_set_law.Goals as goal

pub returns : goal.returns
returns c = record { ready = ready-same; remaining = remaining-same; sum = λ block placed others w same. sum_remaining-same block placed others same w }
