use Rattle.std.proofs.Common.{◌≡◌}
use Rattle.serde_json.specs.View.{members_view}
use Rattle.s66_command.specs.{hint_in_members}
use Rattle.s66_command.proofs.hint.hint_in.Given as goal

-- nothing is wrong with the members so far
abbrev pub invariant-loop-name : goal.invariant-loop-name
invariant-loop-name l = hint_in_members (members_view l.initial.name-iterator) ≡ hint_in_members (members_view l.name-iterator)
