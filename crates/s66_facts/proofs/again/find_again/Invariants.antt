use Rattle.s66_facts.specs.{AreSettled, IsMarkedUpTo}
use Rattle.s66_facts.proofs.again.find_again.Given as goal

abbrev pub invariant-loop-round : goal.invariant-loop-round
invariant-loop-round l = record {
  right : AreSettled l.direction l.graph l.from l.times l.done;
  up : IsMarkedUpTo l.direction l.graph l._round l.done;
}
