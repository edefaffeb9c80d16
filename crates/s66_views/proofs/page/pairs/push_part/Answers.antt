use Rattle.std.proofs.Common.{◌+◌, ◌++◌, ◌∙◌, ap, append_assoc, codes, decimal, sym}
use Rattle.std.proofs.lemmas.Result.{IfOk-equal}
use Rattle.s66_views.specs.{block_anchor, row_said}
use Rattle.s66_views.proofs.Pieces.{more, last}
use Rattle.s66_views.proofs.page.pairs.push_part.Goals as goal

pub returns-in_ok-push_between-in-Row-clause-text : goal.returns-in_ok-push_between-in-Row-clause-text
returns-in_ok-push_between-in-Row-clause-text c =
    let out = c.args.out.now.items in
    let front = codes "<a href='#b" ++ decimal (c.args.at.row + 1) ++ codes "'>" in
    let said = row_said c.args.new.now c.args.at c.args.row.now in
    let behind = codes "</a>\n" in
    rw c.in-Row.is
    (IfOk-equal c.push_said.result _ _ _
    (last c.push_said.result out c.push_between.new.out.items c.push_said.new.out.items front (said ++ behind) c.in_ok-push_between-in-Row.ensures c.push_said.ensures)
    (ap (λ zs. out ++ zs) (sym (append_assoc front said behind))))

pub returns-in_ok-push_said-in-Orders-clause-text : goal.returns-in_ok-push_said-in-Orders-clause-text
returns-in_ok-push_said-in-Orders-clause-text c =
    let out = c.args.out.now.items in
    let anchor = block_anchor (c.args.at.row + 1) in
    let said = row_said c.args.new.now c.args.at c.args.row.now in
    let behind = codes " <a href='#top'>&#8593;</a></h2>\n" in
    let front = more out c.push_block_anchor.new.out.items c.push_said-in-Orders.new.out.items anchor (said ++ behind) c.in_ok-push_block_anchor-in-Orders.ensures c.in_ok-push_said-in-Orders.ensures in
    rw c.in-Orders.is
    (last c.push_row_orders.result out c.push_said-in-Orders.new.out.items c.push_row_orders.new.out.items (anchor ++ said ++ behind) _
    (front ∙ ap (λ zs. out ++ zs) (sym (append_assoc anchor said behind))) c.push_row_orders.ensures.text)
