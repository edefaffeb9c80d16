use Rattle.std.proofs.Common.{◌++◌, codes}
use Rattle.s66_why.specs.{register_name}
use Rattle.s66_views.specs.{page_register_head}
use Rattle.s66_views.proofs.Pieces.{last, more}
use Rattle.s66_views.proofs.page.register.push_register_head.Goals as goal

pub returns : goal.returns
unfolding page_register_head
returns c =
    let out = c.args.out.now.items in
    let start = codes "<tr class='register'><th>     " in
    let name = register_name c.args.register in
    last c.push_text-2.result out c.push_register_name.new.out.items c.push_text-2.new.out.items (start ++ name) (codes "<td><svg>")
    (more out c.push_text.new.out.items c.push_register_name.new.out.items start name c.in_ok-push_text.ensures c.in_ok-push_register_name.ensures) c.push_text-2.ensures
