use Rattle.std.proofs.Common.{◌==◌, ◌∙◌, ◌++◌, ap, append_assoc, codes, sym}
use Rattle.std.proofs.lemmas.Result.{IfOk-equal}
use Rattle.s66_model.specs.{total_of}
use Rattle.s66_views.specs.{json_bound_text, start_text, timed_text}
use Rattle.s66_views.proofs.Values.{found-line}
use Rattle.s66_views.proofs.json_lines.line.push_found_line.Goals as goal

pub returns : goal.returns
returns c =
    let out = c.args.out.now.items in
    let n = c.args.number in
    let block = c.args.block.now in
    let t = c.args.written.now in
    let f = c.args.found.now in
    let start = start_text n c.args.entry.now block t in
    let best = c.args.bound == total_of f.problem f.numbers in
    let bounds = json_bound_text c.args.bound c.args.splits best in
    let last = codes "}}\n" in
    IfOk-equal c.push_text.result _ _ _ c.push_text.ensures
    (ap (λ zs. zs ++ last) (c.in_ok-push_bound.ensures ∙ ap (λ k. c.push_timed.new.out.items ++ json_bound_text c.args.bound c.args.splits (c.args.bound == k)) c.total.ensures.value
    ∙ ap (λ zs. zs ++ bounds) (c.in_ok-push_timed.ensures ∙ ap (λ zs. zs ++ timed_text f) c.in_ok-push_start.ensures))
    ∙ append_assoc ((out ++ start) ++ timed_text f) bounds last ∙ append_assoc (out ++ start) (timed_text f) (bounds ++ last)
    ∙ append_assoc out start (timed_text f ++ (bounds ++ last)) ∙ ap (λ zs. out ++ zs) (sym (found-line n c.args.entry.now block t f c.args.bound c.args.splits)))
