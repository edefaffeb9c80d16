use Rattle.std.proofs.Common.{◌≡◌, true, drop}
use Rattle.s66_isa.specs.{every}
use Rattle.s66_model.specs.{is_remaining}
use Rattle.s66_moments.specs.{is_left}
use Rattle.s66_facts.specs.{known_of as known_in}
use Rattle.s66_checker.proofs.loaded.are_left.Given as goal

abbrev pub invariant-loop-n : goal.invariant-loop-n
invariant-loop-n l = record {
  remain : every (is_remaining l.prefix.problem.block l.prefix.numbers) (drop l.n-index l.numbers) ≡ true;
  left : every (is_left l.prefix.problem (known_in l.known) l.prefix.numbers l.kind l.bound l.after l.time) (drop l.n-index l.numbers) ≡ every (is_left l.prefix.problem (known_in l.known) l.prefix.numbers l.kind l.bound l.after l.time) l.numbers;
}
