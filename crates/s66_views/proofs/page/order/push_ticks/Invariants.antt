use Rattle.std.specs.List.{range_with_len}
use Rattle.std.proofs.Common.{◌≡◌, ◌-◌, ◌++◌, flat_map}
use Rattle.s66_views.specs.{tick}
use Rattle.s66_views.proofs.page.order.push_ticks.Given as goal

abbrev pub invariant-loop-ten : goal.invariant-loop-ten
invariant-loop-ten l = l.out.items ++ flat_map tick (range_with_len l.ten (l.count - l.ten)) ≡ l.fn.out.items ++ flat_map tick (range_with_len 0 l.count)
