use Rattle.std.proofs.Common.{◌≡◌, ◌+◌, drop}
use Rattle.s66_program.specs.{rise_from}
use Rattle.s66_program.proofs.order_text.keeps_order.Given as goal

abbrev pub invariant-loop-i : goal.invariant-loop-i
invariant-loop-i l = rise_from (l.i + 1) (drop l.i l.order) ≡ rise_from 1 l.order
