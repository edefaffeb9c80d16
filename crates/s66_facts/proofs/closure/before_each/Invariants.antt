use Rattle.std.proofs.Common.{◌≡◌, length}
use Rattle.s66_facts.specs.{IsClosedUpTo}
use Rattle.s66_facts.proofs.closure.before_each.Given as goal

abbrev pub invariant-loop-position : goal.invariant-loop-position
invariant-loop-position l = record {
  count : length l.before.items ≡ l.position;
  closed : IsClosedUpTo l.block l.before.items l.position;
}
