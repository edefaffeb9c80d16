use Rattle.std.proofs.Common.{◌++◌, codes}
use Rattle.s66_views.specs.{escaped_lines, page_listing}
use Rattle.s66_views.proofs.Pieces.{more, last}
use Rattle.s66_views.proofs.page.block.push_listing.Goals as goal

pub returns : goal.returns
unfolding page_listing
returns c =
    let out = c.args.out.now.items in
    let front = codes "<pre style='columns:auto'>" in
    let text = escaped_lines c.args.text.now in
    last c.push_text-2.result out c.push_escaped_lines.new.out.items c.push_text-2.new.out.items (front ++ text) (codes "</pre>\n") (more out c.push_text.new.out.items c.push_escaped_lines.new.out.items front text c.in_ok-push_text.ensures c.in_ok-push_escaped_lines.ensures)
    c.push_text-2.ensures
