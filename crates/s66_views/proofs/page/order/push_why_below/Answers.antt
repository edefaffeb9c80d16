use Rattle.std.proofs.Common.{◌++◌, codes, false}
use Rattle.s66_why.specs.{why_text}
use Rattle.s66_views.specs.{why_below}
use Rattle.s66_views.proofs.Pieces.{more, last}
use Rattle.s66_views.proofs.page.order.push_why_below.Goals as goal

pub returns : goal.returns
unfolding why_below
returns c =
    let out = c.args.out.now.items in
    let front = codes "</table>\n<pre>" in
    let text = why_text false c.args.block.now c.args.timed.now in
    last c.push_text-2.result out c.push_why.new.out.items c.push_text-2.new.out.items (front ++ text) (codes "</pre>\n") (more out c.push_text.new.out.items c.push_why.new.out.items front text c.in_ok-push_text.ensures c.in_ok-push_why.ensures)
    c.push_text-2.ensures
