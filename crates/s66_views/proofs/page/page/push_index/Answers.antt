use Rattle.std.proofs.Common.{ℕ, List, ◌≡◌, ◌++◌, ◌∙◌, ap, codes}
use Rattle.s66_isa.specs.{Profile}
use Rattle.s66_views.specs.{Row, page_entries, entry, summaries, total_of_all, total_row}
use Rattle.s66_views.proofs.Pieces.{more, last}
use Rattle.s66_views.proofs.Totals.{total-is}
use Rattle.s66_views.proofs.page.page.push_index.Goals as goal

pub returns-clause-text : goal.returns-clause-text
returns-clause-text c =
    let out = c.args.out.now.items in
    let blocks = c.args.blocks.now in
    let found = c.args.found.now in
    let p = c.args.timer.now in
    let n = c.args.before in
    let rows = page_entries (entry Row p) n blocks found in
    let q = c.push_entries.new.timer in
    let t = c.total_of.result in
    let total : total_row t.count t.source t.time t.best ≡ total_of_all (summaries p n blocks found) =
    total-is (summaries q n blocks found) t.count t.source t.time t.best c.total_of.ensures.count c.total_of.ensures.source c.total_of.ensures.time c.total_of.ensures.best
    ∙ ap (λ (r : Profile). total_of_all (summaries r n blocks found)) c.in_ok-push_entries.ensures.profile in
    let row = c.in_ok-push_total_row.ensures ∙ ap (λ (text : List ℕ). c.push_entries.new.out.items ++ text) total in
    last c.push_text.result out c.push_total_row.new.out.items c.push_text.new.out.items (rows ++ total_of_all (summaries p n blocks found)) (codes "</table>\n")
    (more out c.push_entries.new.out.items c.push_total_row.new.out.items rows (total_of_all (summaries p n blocks found)) c.in_ok-push_entries.ensures.text row) c.push_text.ensures
