use Rattle.std.proofs.Common.{◌≡◌, ◌≤◌, length, filter}
use Rattle.s66_isa.specs.{rising}
use Rattle.s66_model.specs.{is_ready}
use Rattle.s66_checker.proofs.leaf.ready.Given as goal

abbrev pub invariant-loop-position : goal.invariant-loop-position
invariant-loop-position l = record {
  ready : l.ready.items ≡ filter (is_ready l.prefix.problem.block l.prefix.numbers) (rising l.position 1);
  few : length l.ready.items ≤ l.position;
}
