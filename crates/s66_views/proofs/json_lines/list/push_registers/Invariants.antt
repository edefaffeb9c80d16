use Rattle.std.proofs.Common.{◌≡◌, ◌++◌, drop, nat_lt}
use Rattle.s66_views.specs.{json_listed, list_text, json_register_text}
use Rattle.s66_views.proofs.json_lines.list.push_registers.Given as goal

abbrev pub invariant-loop-i : goal.invariant-loop-i
invariant-loop-i l = l.out.items ++ json_listed json_register_text (nat_lt 0 l.i) (drop l.i l.registers) ≡ l.fn.out.items ++ list_text json_register_text l.registers
