use Rattle.std.proofs.Common.{◌≡◌, length}
use Rattle.s66_pool.specs.{IsAt}
use Rattle.s66_pool.proofs.shared_marks.SharedMarks.take_in.Given as goal

abbrev pub invariant-loop-entry : goal.invariant-loop-entry
invariant-loop-entry g l = record {
  here : IsAt l.fn.self.table.shared.table_id l.fn.self.table.shared.key l.token;
  own : l.fn.self.table.shared.key.problem ≡ l.grafted.problem;
  same : l.grafted.problem ≡ l.fn.grafted.problem;
}

abbrev pub decreases-loop-entry : goal.decreases-loop-entry
decreases-loop-entry g l = length l.grafted.names
