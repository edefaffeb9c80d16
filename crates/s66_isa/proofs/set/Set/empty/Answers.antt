use Rattle.std.proofs.Common.{refl}
use Rattle.s66_isa.specs.{numbers_in}
use Rattle.s66_isa.proofs.set.Set.empty.Goals as goal

pub returns : goal.returns
unfolding numbers_in
returns c = refl
