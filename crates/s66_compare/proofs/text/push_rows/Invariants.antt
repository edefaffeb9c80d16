use Rattle.std.proofs.Common.{◌≡◌, ◌≤◌, ◌++◌, drop}
use Rattle.s66_compare.specs.{row_lines}
use Rattle.s66_compare.proofs.text.push_rows.Given as goal

abbrev pub invariant-loop-row : goal.invariant-loop-row
invariant-loop-row l = record {
  lines : l.out.items ++ row_lines l.text l.new l.old_count l.new_count (drop l.row-index l.rows) ≡ l.fn.out.items ++ row_lines l.text l.new 0 0 l.rows;
  few_old : l.old_count ≤ l.row-index;
  few_new : l.new_count ≤ l.row-index;
}
