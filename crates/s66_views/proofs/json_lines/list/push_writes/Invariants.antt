use Rattle.std.proofs.Common.{◌≡◌, ◌++◌, drop, nat_lt}
use Rattle.s66_views.specs.{json_listed, list_text, write_text}
use Rattle.s66_views.proofs.json_lines.list.push_writes.Given as goal

abbrev pub invariant-loop-i : goal.invariant-loop-i
invariant-loop-i l = l.out.items ++ json_listed write_text (nat_lt 0 l.i) (drop l.i l.writes) ≡ l.fn.out.items ++ list_text write_text l.writes
