use Rattle.std.proofs.Common.{arith, ap}
use Rattle.s66_isa.specs.{Write}
use Rattle.s66_time.proofs.Loops.{greatest_more}
use Rattle.s66_bound.proofs.cost.greatest_latency.Goals as goal

pub loop-write-preserved : goal.loop-write-preserved
loop-write-preserved c = omega (
  arith,
  c.max-last.ensures,
  c.loop-write.invariant,
  greatest_more (λ (w : Write). w.latency) c.args.writes.now c.loop-write.write-index c.write-item.result c.loop-write-test.true c.write-item.is,
  ap (λ (w : Write). w.latency) c.write.view_is,
)
