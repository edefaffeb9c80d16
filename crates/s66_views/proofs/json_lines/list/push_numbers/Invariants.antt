use Rattle.std.proofs.Common.{◌≡◌, ◌++◌, drop, nat_lt, decimal}
use Rattle.s66_views.specs.{json_listed, list_text}
use Rattle.s66_views.proofs.json_lines.list.push_numbers.Given as goal

abbrev pub invariant-loop-i : goal.invariant-loop-i
invariant-loop-i l = l.out.items ++ json_listed decimal (nat_lt 0 l.i) (drop l.i l.numbers) ≡ l.fn.out.items ++ list_text decimal l.numbers
