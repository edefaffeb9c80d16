use Rattle.std.proofs.Common.{◌≡◌, [], ◌↔◌, IsSome, string_bytes, ◌∙◌, sym}
use Rattle.std.proofs.lemmas.Result.{IfOk-weaker}
use Rattle.serde_json.specs.View.{members_view}
use Rattle.s66_command.specs.{hint_in_members, profile_in_text}
use Rattle.s66_command.proofs.EmptyHints.{empty_if_profile}
use Rattle.s66_command.proofs.hint.profile_hint.Goals as goal

pub returns-in-Some-clause-empty : goal.returns-in-Some-clause-empty
returns-in-Some-clause-empty c =
    let empty = empty_if_profile c.args.text.now _ _ c.in-Ok.ensures.value (sym c.in-Some.ensures) in
    IfOk-weaker c.hint_in.result (λ hint. string_bytes hint ≡ hint_in_members (members_view c.in-Some.members.now.entries)) (λ hint. (string_bytes hint ≡ []) ↔ IsSome (profile_in_text c.args.text.now))
    (λ hint said. ((λ e. empty.0 (sym said ∙ e)), (λ e. said ∙ empty.1 e))) c.hint_in.ensures
