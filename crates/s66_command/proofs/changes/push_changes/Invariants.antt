use Rattle.std.proofs.Common.{◌≡◌, ◌++◌, drop}
use Rattle.s66_command.specs.{changes_text}
use Rattle.s66_command.proofs.changes.push_changes.Given as goal

abbrev pub invariant-loop-change : goal.invariant-loop-change
invariant-loop-change l = l.out.items ++ changes_text (drop l.change-index l.changes) ≡ l.fn.out.items ++ changes_text l.changes
