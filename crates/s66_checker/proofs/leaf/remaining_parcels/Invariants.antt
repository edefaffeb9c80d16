use Rattle.std.proofs.Common.{◌≡◌, ◌≤◌, ◌*◌, filter}
use Rattle.s66_isa.specs.{weigh, rising}
use Rattle.s66_model.specs.{row_at, is_remaining}
use Rattle.s66_checker.proofs.leaf.remaining_parcels.Given as goal

abbrev pub invariant-loop-position : goal.invariant-loop-position
invariant-loop-position l = record {
  sum : l.parcels ≡ weigh (λ m. (row_at l.prefix.problem m).parcels) (filter (is_remaining l.prefix.problem.block l.prefix.numbers) (rising l.position 1));
  few : l.parcels ≤ 2 * l.position;
}
