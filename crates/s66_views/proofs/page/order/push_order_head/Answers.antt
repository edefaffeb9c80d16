use Rattle.std.proofs.Common.{◌++◌, codes}
use Rattle.s66_views.specs.{heading, order_head, table_start, ticks}
use Rattle.s66_views.proofs.Pieces.{more, last}
use Rattle.s66_views.proofs.page.order.push_order_head.Goals as goal

pub returns : goal.returns
unfolding order_head
returns c =
    let out = c.args.out.now.items in
    let total = c.args.total in
    let title = heading c.args.title.now total in
    let start = table_start total in
    let first = more out c.push_heading.new.out.items c.push_table_start.new.out.items title start c.in_ok-push_heading.ensures c.in_ok-push_table_start.ensures in
    last c.push_text.result out c.push_ticks.new.out.items c.push_text.new.out.items (title ++ start ++ ticks total) (codes "</svg>\n<tbody>\n")
    (more out c.push_table_start.new.out.items c.push_ticks.new.out.items (title ++ start) (ticks total) first c.in_ok-push_ticks.ensures) c.push_text.ensures
