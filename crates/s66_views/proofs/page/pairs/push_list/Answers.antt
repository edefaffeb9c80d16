use Rattle.std.proofs.Common.{◌++◌, codes}
use Rattle.s66_compare.specs.{ending_text}
use Rattle.s66_views.specs.{Row, all_pairs}
use Rattle.s66_views.proofs.Pieces.{more, last}
use Rattle.s66_views.proofs.page.pairs.push_list.Goals as goal

pub returns-clause-text : goal.returns-clause-text
returns-clause-text c =
    let out = c.args.out.now.items in
    let rows = c.args.rows.now in
    let links = all_pairs c.args.timer.now c.args.old.now c.args.new.now Row rows in
    let ending = ending_text rows c.args.difference in
    last c.push_text.result out c.push_ending.new.out.items c.push_text.new.out.items (links ++ ending) (codes "</pre>\n")
    (more out c.push_parts.new.out.items c.push_ending.new.out.items links ending c.in_ok-push_parts.ensures.text c.in_ok-push_ending.ensures) c.push_text.ensures
