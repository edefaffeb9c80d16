use Rattle.s66_pool.specs.{IsAt}
use Rattle.s66_pool.proofs.shared_marks.SharedMarks.take.Given as goal

abbrev pub invariant-loop : goal.invariant-loop
invariant-loop g l = IsAt l.self.table.shared.table_id l.self.table.shared.key l.token
