use Rattle.std.proofs.Common.{◌∙◌, ◌++◌, ap, append_assoc, codes, sym}
use Rattle.std.proofs.lemmas.Result.{IfOk-equal}
use Rattle.s66_views.specs.{start_text}
use Rattle.s66_views.proofs.Values.{written-line}
use Rattle.s66_views.proofs.json_lines.line.push_written_line.Goals as goal

pub returns : goal.returns
returns c =
    let out = c.args.out.now.items in
    let n = c.args.number in
    let block = c.args.block.now in
    let t = c.args.written.now in
    let start = start_text n c.args.entry.now block t in
    IfOk-equal c.push_text.result _ _ _ c.push_text.ensures
    (ap (λ zs. zs ++ codes "null}\n") c.in_ok-push_start.ensures ∙ append_assoc out start (codes "null}\n") ∙ ap (λ zs. out ++ zs) (sym (written-line n c.args.entry.now block t)))
