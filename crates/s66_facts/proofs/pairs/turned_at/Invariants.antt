use Rattle.s66_facts.proofs.NearEach.{IsTurned}
use Rattle.s66_facts.proofs.pairs.turned_at.Given as goal

abbrev pub invariant-loop-position : goal.invariant-loop-position
invariant-loop-position l = IsTurned l.before l.n l.position l.all
