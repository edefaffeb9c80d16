use Rattle.std.proofs.Common.{◌≡◌, ◌++◌, flat_map, take}
use Rattle.s66_views.specs.{unit_bars}
use Rattle.s66_views.proofs.page.unit.push_all_unit_bars.Given as goal

abbrev pub invariant-loop-work : goal.invariant-loop-work
invariant-loop-work l = l.out.items ≡ l.fn.out.items ++ flat_map unit_bars (take l.work-index l.works)
