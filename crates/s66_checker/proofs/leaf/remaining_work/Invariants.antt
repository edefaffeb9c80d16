use Rattle.std.proofs.Common.{◌≡◌, ◌≤◌, ◌*◌, filter}
use Rattle.s66_isa.specs.{weigh, rising}
use Rattle.s66_model.specs.{row_at, is_remaining, work_of}
use Rattle.s66_checker.proofs.leaf.remaining_work.Given as goal

abbrev pub invariant-loop-position : goal.invariant-loop-position
invariant-loop-position l = record {
  sum : l.sum ≡ weigh (λ m. work_of l.kind (row_at l.prefix.problem m)) (filter (is_remaining l.prefix.problem.block l.prefix.numbers) (rising l.position 1));
  few : l.sum ≤ 101 * l.position;
}
