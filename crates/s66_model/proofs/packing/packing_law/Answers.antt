use Rattle.s66_model.proofs.Packed.{points-parcels_from}
use Rattle.s66_model.proofs.packing.packing_law.Goals as goal

pub returns : goal.returns
returns c = points-parcels_from
