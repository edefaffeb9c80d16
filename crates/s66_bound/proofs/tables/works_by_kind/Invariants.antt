use Rattle.std.proofs.Common.{◌≡◌, length}
use Rattle.s66_model.specs.{Problem}
use Rattle.s66_bound.specs.{AreCosts}
use Rattle.s66_bound.proofs.WorkTables.{HasFirstWorks}
use Rattle.s66_bound.proofs.tables.works_by_kind.Given as goal

abbrev pub invariant-loop-place : goal.invariant-loop-place
invariant-loop-place l = record {
  size : length l.works ≡ 7;
  known : (b : Problem) → AreCosts b l.costs → HasFirstWorks b l.place l.works;
}
