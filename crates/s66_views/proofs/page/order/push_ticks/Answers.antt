use Rattle.s66_why.proofs.Appended.{range-more}
use Rattle.s66_views.specs.{tick}
use Rattle.s66_views.proofs.page.order.push_ticks.Goals as goal

pub loop-ten-preserved : goal.loop-ten-preserved
loop-ten-preserved c = range-more tick _ c.loop-ten.ten _ c.loop-ten.out.items c.push_tick.new.out.items c.loop-ten-test.true c.loop-ten.invariant c.in_ok-push_tick.ensures
