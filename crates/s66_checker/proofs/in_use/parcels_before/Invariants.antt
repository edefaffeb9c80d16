use Rattle.std.proofs.Common.{◌≡◌, ◌≤◌, ◌*◌, cond, filter}
use Rattle.s66_isa.specs.{weigh, rising}
use Rattle.s66_model.specs.{row_at, is_remaining}
use Rattle.s66_facts.specs.{known_of as known_in}
use Rattle.s66_checker.proofs.in_use.parcels_before.Given as goal

abbrev pub invariant-loop-position : goal.invariant-loop-position
invariant-loop-position l = record {
  sum : l.parcels ≡ weigh (λ m. cond ((known_in l.known).before m l.n) (row_at l.prefix.problem m).parcels 0) (filter (is_remaining l.prefix.problem.block l.prefix.numbers) (rising l.position 1));
  few : l.parcels ≤ 2 * l.position;
}
