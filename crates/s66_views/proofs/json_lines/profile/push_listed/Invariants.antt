use Rattle.std.proofs.Common.{◌≡◌, ◌++◌, drop, false, nat_lt}
use Rattle.s66_views.specs.{changes_listed}
use Rattle.s66_views.proofs.json_lines.profile.push_listed.Given as goal

abbrev pub invariant-loop-i : goal.invariant-loop-i
invariant-loop-i l = l.out.items ++ changes_listed (nat_lt 0 l.i) (drop l.i l.changes) ≡ l.fn.out.items ++ changes_listed false l.changes
