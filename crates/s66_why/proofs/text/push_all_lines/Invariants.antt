use Rattle.std.proofs.Common.{◌≡◌, ◌*◌, ◌^◌, ◌++◌, flat_map, take, reverse}
use Rattle.s66_why.specs.{stretches, stretch_line, lost, sum_of, AreAtMost, Conflict}
use Rattle.s66_why.proofs.text.push_all_lines.Given as goal

abbrev pub invariant-loop-position : goal.invariant-loop-position
invariant-loop-position l = record {
  lines : l.out.items ≡ l.fn.out.items ++ flat_map (stretch_line l.texts l.block) (stretches (reverse (take l.position l.points)));
  sums : (conflict : Conflict) → sum_of l.sums conflict ≡ lost conflict (stretches (reverse (take l.position l.points)));
  at_most : AreAtMost (2 ^ 34 * l.position) l.sums;
}
