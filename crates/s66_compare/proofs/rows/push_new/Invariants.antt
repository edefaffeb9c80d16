use Rattle.std.proofs.Common.{◌≡◌, ◌++◌, [], drop}
use Rattle.s66_compare.specs.{rows_of}
use Rattle.s66_compare.proofs.rows.push_new.Given as goal

abbrev pub invariant-loop-place : goal.invariant-loop-place
invariant-loop-place l = record {
  profile : l.timer ≡ l.fn.timer;
  rows : l.rows.items ++ rows_of l.fn.timer [] (drop l.place l.new) ≡ l.fn.rows.items ++ rows_of l.fn.timer [] (drop l.first l.new);
}
