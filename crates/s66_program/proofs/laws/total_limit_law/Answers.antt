use Rattle.std.proofs.Common.{arith}
use Rattle.s66_model.proofs.Growth.{total-le}
use Rattle.s66_program.proofs.laws.total_limit_law.Goals as goal

pub returns : goal.returns
returns c = λ b order few. omega (arith, total-le b order, few)
