use Rattle.std.proofs.Common.{◌≡◌, ◌++◌, ◌∙◌, ap, ap₂}
use Rattle.s66_isa.specs.{Profile}
use Rattle.s66_views.specs.{Orders, all_pairs, pairs_head, pairs_list}
use Rattle.s66_views.proofs.page.pairs.pairs_text.Goals as goal

pub returns : goal.returns
returns c =
    let p = c.args.profile.now in
    let old = c.args.old.now in
    let new = c.args.new.now in
    let rows = c.args.rows.now in
    let head : c.push_head.new.out.items ≡ pairs_head p = c.in_ok-push_head.ensures ∙ ap (λ text. text ++ pairs_head p) c.new-text.ensures.items in
    let timed : c.new-timer.result ≡ p = c.new-timer.ensures in
    let list : c.push_list.new.out.items ≡ pairs_head p ++ pairs_list p old new rows c.args.difference =
    c.in_ok-push_list.ensures.text ∙ ap₂ (λ text (q : Profile). text ++ pairs_list q old new rows c.args.difference) head timed in
    c.in_ok-push_parts.ensures.text ∙ ap₂ (λ text (q : Profile). text ++ all_pairs q old new Orders rows) list (c.in_ok-push_list.ensures.profile ∙ timed)
