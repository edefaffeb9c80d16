use Rattle.std.proofs.Common.{◌≡◌, length}
use Rattle.s66_isa.specs.{rising}
use Rattle.s66_time.proofs.graph.order.Order.source.Given as goal

abbrev pub invariant-loop-position : goal.invariant-loop-position
invariant-loop-position l = record {
  order : l.order.items ≡ rising l.position 1;
  count : length l.order.items ≡ l.position;
}
