use Rattle.std.proofs.Common.{ap, arith}
use Rattle.s66_isa.specs.{Write}
use Rattle.s66_why.proofs.Writes.{short-latency}
use Rattle.s66_why.proofs.points.results.Goals as goal

pub overflow_add-start : goal.overflow_add-start
overflow_add-start c =
    omega (arith, c.requires, ap (λ (w : Write). w.latency) c.write.view_is, short-latency c.row.inside.writes.items c.as_slice-write-items.result.now c.loop-write.write-index c.write-item.result c.as_slice-write-items.ensures.value c.loop-write-test.true c.write-item.is c.row.invariant.latencies)
