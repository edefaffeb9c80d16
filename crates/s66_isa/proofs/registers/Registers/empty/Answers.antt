use Rattle.std.proofs.Common.{refl}
use Rattle.s66_isa.specs.{registers_in}
use Rattle.s66_isa.proofs.registers.Registers.empty.Goals as goal

pub returns : goal.returns
unfolding registers_in
returns c = refl
