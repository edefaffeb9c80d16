use Rattle.std.proofs.Common.{◌++◌, ◌∙◌, ap, codes}
use Rattle.std.proofs.lemmas.Result.{IfOk-equal}
use Rattle.s66_views.specs.{head_text, json_instructions_text, start_text, timed_text}
use Rattle.s66_views.proofs.Appended.{of-five}
use Rattle.s66_views.proofs.json_lines.block.push_start.Goals as goal

pub returns : goal.returns
unfolding start_text
returns c =
    let out = c.args.out.now.items in
    let t = c.args.written.now in
    let head = head_text c.args.number c.args.entry.now t.problem.profile c.args.block.now in
    let instructions = json_instructions_text t.problem.profile c.args.block.now in
    let written = codes ",\"written\":" in
    let timed = timed_text t in
    let last = codes "},\"found\":" in
    IfOk-equal c.push_text-2.result _ _ _ c.push_text-2.ensures
    (ap (λ zs. zs ++ last)
    (c.in_ok-push_timed.ensures
    ∙ ap (λ zs. zs ++ timed)
    (c.in_ok-push_text.ensures
    ∙ ap (λ zs. zs ++ written)
    (c.in_ok-push_instructions.ensures ∙ ap (λ p. c.push_head.new.out.items ++ json_instructions_text p c.args.block.now) c.profile-2.ensures ∙ ap (λ zs. zs ++ instructions)
    (c.in_ok-push_head.ensures ∙ ap (λ p. c.args.out.now.items ++ head_text c.args.number c.args.entry.now p c.args.block.now) c.profile.ensures))))
    ∙ of-five out head instructions written timed last)
