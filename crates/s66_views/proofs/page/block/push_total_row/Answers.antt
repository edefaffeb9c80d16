use Rattle.std.proofs.Common.{◌++◌, codes}
use Rattle.s66_views.specs.{best_cell, table_cell, time_cells, total_row}
use Rattle.s66_views.proofs.Pieces.{more, last}
use Rattle.s66_views.proofs.page.block.push_total_row.Goals as goal

pub returns : goal.returns
unfolding total_row
returns c =
    let out = c.args.out.now.items in
    let t = c.args.total.now in
    let front = codes "<tr><td>TOTAL<td><td>" in
    let times = time_cells t.source t.time in
    let first = more out c.push_text.new.out.items c.push_cell.new.out.items front (table_cell t.count) c.in_ok-push_text.ensures c.in_ok-push_cell.ensures in
    last c.push_best_cell.result out c.push_time_cells.new.out.items c.push_best_cell.new.out.items (front ++ table_cell t.count ++ times) (best_cell t.best)
    (more out c.push_cell.new.out.items c.push_time_cells.new.out.items (front ++ table_cell t.count) times first c.in_ok-push_time_cells.ensures) c.push_best_cell.ensures
