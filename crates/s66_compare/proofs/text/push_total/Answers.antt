use Rattle.std.proofs.Common.{rules, OnOk, ◌≡◌, ◌++◌, ◌∙◌, ap, codes, decimal}
use Rattle.std.proofs.lemmas.Result.{IfOk-equal}
use Rattle.s66_compare.specs.{sums_text, total_text}
use Rattle.s66_compare.proofs.Texts.{five-pieces}
use Rattle.s66_compare.proofs.text.push_total.Goals as goal

pub returns : goal.returns
returns c =
    let t = c.args.total.now in
    let out = c.args.out.now.items in
    let old = sums_text (codes "TOTAL BLOCKS ") t.blocks t.time in
    let new = sums_text (codes " NEW BLOCKS ") t.new_blocks t.new_time in
    let first : c.push_sums.new.out.items ≡ out ++ old = c.in_ok-push_sums.ensures in
    let second : c.push_sums-2.new.out.items ≡ c.push_sums.new.out.items ++ new = c.in_ok-push_sums-2.ensures in
    let third : c.push_field.new.out.items ≡ c.push_sums-2.new.out.items ++ codes " LEGAL " ++ decimal t.legal = c.in_ok-push_field.ensures in
    let ended : OnOk c.extend_from_slice.result (c.extend_from_slice.new.self.items ≡ c.push_field.new.out.items ++ codes "\n") = search rules in
    IfOk-equal c.extend_from_slice.result c.extend_from_slice.new.self.items (c.push_field.new.out.items ++ codes "\n") (out ++ total_text t.blocks t.time t.new_blocks t.new_time t.legal) ended
    (ap (λ text. text ++ codes "\n") (third ∙ ap (λ text. text ++ codes " LEGAL " ++ decimal t.legal) (second ∙ ap (λ text. text ++ new) first))
    ∙ five-pieces out old new (codes " LEGAL ") (decimal t.legal) (codes "\n"))
