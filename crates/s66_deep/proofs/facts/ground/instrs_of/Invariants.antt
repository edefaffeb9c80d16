use Rattle.std.proofs.Common.{◌≡◌, length}
use Rattle.s66_deep.proofs.facts.ground.instrs_of.Given as goal

abbrev pub invariant-loop-position : goal.invariant-loop-position
invariant-loop-position l = length l.instrs.items ≡ l.position
