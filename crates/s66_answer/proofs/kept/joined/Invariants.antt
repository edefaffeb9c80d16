use Rattle.std.specs.Vec.Iter.{into_iter_items}
use Rattle.std.proofs.Common.{◌≡◌, ◌≤◌, ◌+◌, ◌++◌, length}
use Rattle.s66_answer.specs.{bounded_in, parts_in}
use Rattle.s66_answer.proofs.kept.joined.Given as goal

abbrev pub invariant-loop-kept : goal.invariant-loop-kept
invariant-loop-kept g l = record {
  parts : l.parts.items ++ parts_in (into_iter_items l.kept-iterator) ≡ parts_in l.fn.each.items;
  bounded : l.bounded + bounded_in (into_iter_items l.kept-iterator) ≡ bounded_in l.fn.each.items;
  few : l.bounded + length (into_iter_items l.kept-iterator) ≤ length l.fn.each.items;
}
