use Rattle.std.proofs.Common.{◌+◌, ◌*◌, ◌^◌, ◌≡◌, ◌≤◌, true, map, drop}
use Rattle.s66_isa.specs.{every, weigh}
use Rattle.s66_moments.specs.{Use, is_number, use_of}
use Rattle.s66_facts.proofs.loads.amounts.Given as goal

abbrev pub invariant-loop-n : goal.invariant-loop-n
invariant-loop-n l = record {
  sum : l.sum + weigh (λ (u : Use). u.amount) (map (use_of l.graph.problem) (drop l.n-index l.numbers)) ≡ weigh (λ (u : Use). u.amount) (map (use_of l.graph.problem) l.numbers);
  at_most : l.sum ≤ l.n-index * 2 ^ 32;
  numbers : every (is_number l.graph.problem) (drop l.n-index l.numbers) ≡ true;
}
