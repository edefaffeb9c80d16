use Rattle.s66_isa.specs.{Boolean}
use Rattle.s66_views.specs.{unit_bars}
use Rattle.s66_views.proofs.Points.{texts-more}
use Rattle.s66_views.proofs.page.unit.push_all_unit_bars.Goals as goal

pub loop-work-preserved : goal.loop-work-preserved
loop-work-preserved c =
    texts-more unit_bars c.args.works.now c.loop-work.work-index (record { number = 0; kind = Boolean; issue = 0; start = 0; latency = 0; done = 0; free = 0; hold = 0 }) _ _ _ c.loop-work-test.true c.loop-work.invariant c.in_ok-push_unit_bars.ensures
