use Rattle.std.proofs.Common.{◌≡◌, ◌≤◌, true, map, drop}
use Rattle.s66_isa.specs.{every, least}
use Rattle.s66_model.specs.{is_remaining}
use Rattle.s66_moments.specs.{Use, use_of}
use Rattle.s66_moments.proofs.LeastUse.{least_with}
use Rattle.s66_checker.proofs.loaded.least_amount.Given as goal

abbrev pub invariant-loop-n : goal.invariant-loop-n
invariant-loop-n l = record {
  least : least_with l.low (map (use_of l.prefix.problem) (drop l.n-index l.numbers)) ≡ least (λ (u : Use). u.amount) (map (use_of l.prefix.problem) l.numbers);
  at_most : l.low ≤ 101;
  remain : every (is_remaining l.prefix.problem.block l.prefix.numbers) (drop l.n-index l.numbers) ≡ true;
}
