use Rattle.std.proofs.Common.{◌^◌, ◌≡◌, ◌≤◌, true, map, drop}
use Rattle.s66_isa.specs.{every, least}
use Rattle.s66_moments.specs.{Use, is_number, use_of}
use Rattle.s66_moments.proofs.LeastUse.{least_with}
use Rattle.s66_facts.proofs.loads.least_amount.Given as goal

abbrev pub invariant-loop-n : goal.invariant-loop-n
invariant-loop-n l = record {
  least : least_with l.low (map (use_of l.graph.problem) (drop l.n-index l.numbers)) ≡ least (λ (u : Use). u.amount) (map (use_of l.graph.problem) l.numbers);
  at_most : l.low ≤ 2 ^ 32;
  numbers : every (is_number l.graph.problem) (drop l.n-index l.numbers) ≡ true;
}
