use Rattle.std.proofs.Common.{◌+◌, ◌*◌, ◌≡◌, ◌≤◌, true, map, drop}
use Rattle.s66_isa.specs.{every, weigh}
use Rattle.s66_model.specs.{is_remaining}
use Rattle.s66_moments.specs.{Use, use_of}
use Rattle.s66_checker.proofs.loaded.amounts.Given as goal

abbrev pub invariant-loop-n : goal.invariant-loop-n
invariant-loop-n l = record {
  sum : l.sum + weigh (λ (u : Use). u.amount) (map (use_of l.prefix.problem) (drop l.n-index l.numbers)) ≡ weigh (λ (u : Use). u.amount) (map (use_of l.prefix.problem) l.numbers);
  at_most : l.sum ≤ 101 * l.n-index;
  remain : every (is_remaining l.prefix.problem.block l.prefix.numbers) (drop l.n-index l.numbers) ≡ true;
}
