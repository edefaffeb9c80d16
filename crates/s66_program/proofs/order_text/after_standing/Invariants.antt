use Rattle.std.proofs.Common.{◌≡◌, None, replicate}
use Rattle.s66_program.proofs.order_text.after_standing.Given as goal

abbrev pub invariant-loop : goal.invariant-loop
invariant-loop l = l.all.items ≡ replicate l.counter None
