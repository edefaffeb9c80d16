use Rattle.s66_isa.proofs.RegisterBits.{meets-is}
use Rattle.s66_isa.proofs.registers.Registers.meets.Goals as goal

pub returns : goal.returns
returns c = meets-is c.args.self.now c.args.other.now
