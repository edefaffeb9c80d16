use Rattle.std.proofs.Common.{◌≡◌, true}
use Rattle.s66_lint.specs.{is_in_order}
use Rattle.s66_lint.proofs.findings.found_in.Given as goal

abbrev pub invariant-loop-at : goal.invariant-loop-at
invariant-loop-at l = is_in_order 1 l.at l.all.items ≡ true
