use Rattle.std.proofs.Common.{ℕ, ◌*◌}
use Rattle.s66_why.specs.{in_ten}
use Rattle.s66_why.proofs.Appended.{range-more}
use Rattle.s66_why.proofs.chart.push_tens.Goals as goal

pub loop-ten-preserved : goal.loop-ten-preserved
loop-ten-preserved c = range-more (λ (ten : ℕ). in_ten (10 * ten)) _ c.loop-ten.ten _ c.loop-ten.out.items c.push_in_ten.new.out.items c.loop-ten-test.true c.loop-ten.invariant c.in_ok-push_in_ten.ensures
