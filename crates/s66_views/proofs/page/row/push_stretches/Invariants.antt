use Rattle.std.proofs.Common.{◌≡◌, ◌++◌, drop, flat_map}
use Rattle.s66_views.specs.{shown_as}
use Rattle.s66_views.proofs.page.row.push_stretches.Given as goal

abbrev pub invariant-loop-stretch : goal.invariant-loop-stretch
invariant-loop-stretch l = l.out.items ++ flat_map (shown_as l.fn.shown) (drop l.stretch-index l.waits) ≡ l.fn.out.items ++ flat_map (shown_as l.fn.shown) l.waits
