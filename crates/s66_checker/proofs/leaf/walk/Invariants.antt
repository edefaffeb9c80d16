use Rattle.std.proofs.Common.{◌≡◌, ◌≤◌, ◌+◌, ◌*◌, true, drop}
use Rattle.s66_model.specs.{is_remaining, walk}
use Rattle.s66_checker.specs.{is_walk}
use Rattle.s66_checker.proofs.leaf.walk.Given as goal

abbrev pub invariant-loop-m : goal.invariant-loop-m
invariant-loop-m l = record {
  remains : is_remaining l.prefix.problem.block l.prefix.numbers l.last ≡ true;
  links : is_walk l.prefix.problem l.prefix.numbers l.last (drop l.m-index l.later) ≡ is_walk l.prefix.problem l.prefix.numbers l.n l.later;
  value : l.time + walk l.prefix.problem l.last (drop l.m-index l.later) ≡ walk l.prefix.problem l.n l.later;
  small : l.time ≤ 100 * l.last;
}
