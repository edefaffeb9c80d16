use Rattle.std.proofs.Common.{◌≡◌, ◌++◌, reverse, take}
use Rattle.s66_views.specs.{instruction_rows}
use Rattle.s66_views.proofs.page.row.push_rows.Given as goal

abbrev pub invariant-loop-position : goal.invariant-loop-position
invariant-loop-position l = l.out.items ≡ l.fn.out.items ++ instruction_rows l.block l.on_path (reverse (take l.position l.points))
