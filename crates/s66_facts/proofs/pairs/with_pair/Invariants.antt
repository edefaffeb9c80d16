use Rattle.std.proofs.Common.{◌≡◌, length}
use Rattle.s66_facts.proofs.Paired.{ArePaired}
use Rattle.s66_facts.proofs.pairs.with_pair.Given as goal

abbrev pub invariant-loop-position : goal.invariant-loop-position
invariant-loop-position l = record {
  count : length l.all.items ≡ l.position;
  paired : ArePaired l.before l.j l.k l.position l.all.items;
}
