use Rattle.std.proofs.Common.{◌≡◌, replicate}
use Rattle.s66_ledger.proofs.machine.Machine.new.Given as goal

abbrev pub invariant-loop : goal.invariant-loop
invariant-loop l = l.allowances.items ≡ replicate l.counter 0
