use Rattle.std.proofs.Common.{◌≡◌}
use Rattle.serde_json.specs.View.{members_view}
use Rattle.s66_isa.specs.{IsProfile}
use Rattle.s66_command.specs.{with_members}
use Rattle.s66_command.proofs.profile.profile_in.Given as goal

-- the members that are left do to these numbers what all do to the first
abbrev pub invariant-loop-name : goal.invariant-loop-name
invariant-loop-name l = (with_members l.initial.numbers (members_view l.initial.name-iterator) ≡ with_members l.numbers (members_view l.name-iterator)) × IsProfile l.numbers
