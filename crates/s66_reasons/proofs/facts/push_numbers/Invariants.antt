use Rattle.std.proofs.Common.{◌≡◌, ◌++◌, decimal, drop}
use Rattle.s66_reasons.specs.{listed}
use Rattle.s66_reasons.proofs.facts.push_numbers.Given as goal

abbrev pub invariant-loop-place : goal.invariant-loop-place
invariant-loop-place l = l.out.items ++ listed decimal (drop l.place l.numbers) ≡ l.fn.out.items ++ listed decimal l.numbers
