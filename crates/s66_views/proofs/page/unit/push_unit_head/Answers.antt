use Rattle.std.proofs.Common.{◌++◌, codes}
use Rattle.s66_views.specs.{page_unit_head, unit_shares}
use Rattle.s66_views.proofs.Pieces.{more, last}
use Rattle.s66_views.proofs.page.unit.push_unit_head.Goals as goal

pub returns : goal.returns
unfolding page_unit_head
returns c =
    let out = c.args.out.now.items in
    let front = codes "<tr class='unit'><th>     " in
    let name = c.args.name.now in
    last c.push_unit_shares.result out c.push_text-2.new.out.items c.push_unit_shares.new.out.items (front ++ name) (unit_shares c.args.taken c.args.works)
    (more out c.push_text.new.out.items c.push_text-2.new.out.items front name c.in_ok-push_text.ensures c.in_ok-push_text-2.ensures) c.push_unit_shares.ensures
