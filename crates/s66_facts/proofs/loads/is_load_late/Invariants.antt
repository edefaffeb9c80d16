use Rattle.std.proofs.Common.{◌≡◌, drop}
use Rattle.s66_isa.specs.{some_of}
use Rattle.s66_moments.specs.{is_late_load}
use Rattle.s66_facts.proofs.loads.is_load_late.Given as goal

abbrev pub invariant-loop-load : goal.invariant-loop-load
invariant-loop-load l = some_of (is_late_load l.bound) (drop l.load-index l.loads) ≡ some_of (is_late_load l.bound) l.loads
