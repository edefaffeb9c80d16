use Rattle.std.proofs.Common.{◌≡◌, ◌≤◌, ◌++◌, ◌∙◌, List, [], ◌∷◌, ap, append_assoc, arith, codes, false, length, refl}
use Rattle.std.proofs.lemmas.Result.{IfOk-equal}
use Rattle.s66_command.specs.{Change}
use Rattle.s66_views.specs.{changes_listed, profile_member_text}
use Rattle.s66_views.proofs.json_lines.profile.push_changes.Goals as goal

some-listed : (cs : List Change) → 1 ≤ length cs → codes ",\"profile\":{" ++ changes_listed false cs ≡ profile_member_text cs
some-listed [] some = absurd (omega arith)
some-listed (c ∷ cs) some = refl

pub returns-in_ok-push_text-in_default : goal.returns-in_ok-push_text-in_default
returns-in_ok-push_text-in_default c =
    let out = c.args.out.now.items in
    let cs = c.args.changes.now in
    IfOk-equal c.push_listed.result _ _ _ c.push_listed.ensures
    (ap (λ xs. xs ++ changes_listed false cs) c.in_ok-push_text-in_default.ensures ∙ append_assoc out (codes ",\"profile\":{") (changes_listed false cs)
    ∙ ap (λ xs. out ++ xs) (some-listed cs c.in_default.len_at_least))
