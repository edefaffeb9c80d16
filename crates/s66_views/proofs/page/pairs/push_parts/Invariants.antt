use Rattle.std.proofs.Common.{◌≡◌, ◌≤◌, ◌++◌, drop}
use Rattle.s66_compare.specs.{AreOfBlocks}
use Rattle.s66_views.specs.{all_pairs, pair_part, pair_parts}
use Rattle.s66_views.proofs.page.pairs.push_parts.Given as goal

abbrev pub invariant-loop-row : goal.invariant-loop-row
invariant-loop-row l = record {
  text : l.out.items ++ pair_parts (pair_part l.fn.timer l.old l.new l.part) l.at (drop l.row-index l.rows) ≡ l.fn.out.items ++ all_pairs l.fn.timer l.old l.new l.part l.rows;
  profile : l.timer ≡ l.fn.timer;
  blocks : AreOfBlocks l.old l.new l.at.old l.at.new (drop l.row-index l.rows);
  row : l.at.row ≡ l.row-index;
  few_old : l.at.old ≤ l.row-index;
  few_new : l.at.new ≤ l.row-index;
}
