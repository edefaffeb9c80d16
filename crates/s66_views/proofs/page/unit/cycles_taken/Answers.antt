use Rattle.std.proofs.Common.{◌-◌, arith}
use Rattle.s66_isa.specs.{Boolean}
use Rattle.s66_why.specs.{Work}
use Rattle.s66_views.proofs.Points.{weigh-more}
use Rattle.s66_views.proofs.page.unit.cycles_taken.Goals as goal

pub loop-work-preserved : goal.loop-work-preserved
loop-work-preserved c =
    let one = weigh-more (λ (w : Work). w.free - w.issue) c.args.works.now c.loop-work.work-index (record { number = 0; kind = Boolean; issue = 0; start = 0; latency = 0; done = 0; free = 0; hold = 0 }) c.loop-work-test.true in
    record {
      value = omega (arith, c.saturating_sub.ensures, c.loop-work.invariant.value, one);
      few = omega (arith, c.saturating_sub.type_inv, c.loop-work.invariant.few);
    }
