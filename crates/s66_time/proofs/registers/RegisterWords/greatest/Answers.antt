use Rattle.std.proofs.Common.{arith}
use Rattle.s66_time.proofs.Loops.{greatest_more}
use Rattle.s66_time.proofs.registers.RegisterWords.greatest.Goals as goal

pub loop-register-preserved : goal.loop-register-preserved
loop-register-preserved c =
    λ f tells. omega (arith, c.max-last.ensures, c.loop-register.invariant f tells, c.at.ensures f tells, greatest_more f c.args.registers.now c.loop-register.register-index c.register-item.result c.loop-register-test.true c.register-item.is)
