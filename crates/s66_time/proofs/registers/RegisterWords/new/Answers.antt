use Rattle.s66_isa.specs.{index_of, REGISTER_COUNT}
use Rattle.s66_time.proofs.Back.{zeros}
use Rattle.s66_time.proofs.registers.RegisterWords.new.Goals as goal

pub returns : goal.returns
returns c = λ r. zeros REGISTER_COUNT (index_of r)
