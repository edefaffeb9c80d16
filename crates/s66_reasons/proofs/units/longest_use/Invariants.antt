use Rattle.std.proofs.Common.{◌≡◌, max, drop}
use Rattle.s66_reasons.specs.{longest_use}
use Rattle.s66_reasons.proofs.units.longest_use.Given as goal

abbrev pub invariant-loop-n : goal.invariant-loop-n
invariant-loop-n l = max l.most (longest_use l.prefix.problem (drop l.n-index l.numbers)) ≡ longest_use l.prefix.problem l.numbers
