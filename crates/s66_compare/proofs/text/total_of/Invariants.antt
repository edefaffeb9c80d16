use Rattle.std.proofs.Common.{◌≡◌, ◌≤◌, ◌+◌, ◌*◌, ◌^◌, drop}
use Rattle.s66_isa.specs.{tally, weigh}
use Rattle.s66_compare.specs.{has_new, has_old, is_legal, new_time, old_time}
use Rattle.s66_compare.proofs.text.total_of.Given as goal

abbrev pub invariant-loop-row : goal.invariant-loop-row
invariant-loop-row l = record {
  blocks : l.blocks + tally has_old (drop l.row-index l.rows) ≡ tally has_old l.rows;
  few_blocks : l.blocks ≤ l.row-index;
  time : l.time + weigh old_time (drop l.row-index l.rows) ≡ weigh old_time l.rows;
  small_time : l.time ≤ 2 ^ 32 * l.row-index;
  new_blocks : l.new_blocks + tally has_new (drop l.row-index l.rows) ≡ tally has_new l.rows;
  few_new : l.new_blocks ≤ l.row-index;
  new_time : l.new_time + weigh new_time (drop l.row-index l.rows) ≡ weigh new_time l.rows;
  small_new : l.new_time ≤ 2 ^ 32 * l.row-index;
  legal : l.legal + tally is_legal (drop l.row-index l.rows) ≡ tally is_legal l.rows;
  few_legal : l.legal ≤ l.row-index;
}
