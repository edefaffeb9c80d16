use Rattle.std.proofs.Common.{◌≡◌, ◌≤◌, ◌++◌, drop, length}
use Rattle.s66_compare.specs.{rows_by}
use Rattle.s66_compare.proofs.rows.push_by_steps.Given as goal

abbrev pub invariant-loop-step : goal.invariant-loop-step
invariant-loop-step l = record {
  profile : l.timer ≡ l.fn.timer;
  rows : l.rows.items ++ rows_by l.fn.timer (drop l.step-index l.steps) (drop l.places.old l.old) (drop l.places.new l.new) ≡ l.fn.rows.items ++ rows_by l.fn.timer l.steps l.old l.new;
  within_old : l.places.old ≤ length l.old;
  within_new : l.places.new ≤ length l.new;
}
