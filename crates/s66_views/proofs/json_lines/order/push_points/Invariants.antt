use Rattle.std.proofs.Common.{◌≡◌, ◌*◌, ◌^◌, ◌++◌, take, reverse}
use Rattle.s66_why.specs.{Conflict, lost, stretches, sum_of, AreAtMost}
use Rattle.s66_views.specs.{points_text}
use Rattle.s66_views.proofs.json_lines.order.push_points.Given as goal

abbrev pub invariant-loop-position : goal.invariant-loop-position
invariant-loop-position l = record {
  text : l.out.items ≡ l.fn.out.items ++ points_text (reverse (take l.position l.points));
  sums : (conflict : Conflict) → sum_of l.sums conflict ≡ lost conflict (stretches (reverse (take l.position l.points)));
  at_most : AreAtMost (2 ^ 34 * l.position) l.sums;
}
