use Rattle.std.proofs.Common.{◌++◌, ◌∙◌, ap, codes}
use Rattle.s66_views.specs.{Summary, best_text, page_block_head, block_text, page_order_text, reasons_below, summary}
use Rattle.s66_views.proofs.Pieces.{more, last}
use Rattle.s66_views.proofs.page.block.push_block.Goals as goal

pub returns : goal.returns
unfolding block_text
returns c =
    let out = c.args.out.now.items in
    let block = c.args.block.now in
    let source = c.args.source.now in
    let best = c.args.best.now in
    let name = c.args.entry.now in
    let head = page_block_head name (summary c.args.number block source best c.args.bound) in
    let order = page_order_text block (codes "As it is written") source in
    let first = c.in_ok-push_block_head.ensures ∙ ap (λ (s : Summary). out ++ page_block_head name s) c.summary_of-summary.ensures.value in
    let above = head ++ order ++ best_text block source best in
    last c.push_reasons_below.result out c.push_best.new.out.items c.push_reasons_below.new.out.items above (reasons_below c.args.reasons.now)
    (more out c.push_order.new.out.items c.push_best.new.out.items (head ++ order) (best_text block source best)
    (more out c.push_block_head.new.out.items c.push_order.new.out.items head order first c.in_ok-push_order.ensures) c.in_ok-push_best.ensures) c.push_reasons_below.ensures
