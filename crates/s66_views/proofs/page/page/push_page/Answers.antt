use Rattle.std.proofs.Common.{OnOk, ◌≡◌, ◌++◌, ◌∙◌, ap, subst}
use Rattle.s66_isa.specs.{Profile}
use Rattle.s66_views.specs.{Orders, page_entries, entry, index, page_head}
use Rattle.s66_views.proofs.Pieces.{more, last}
use Rattle.s66_views.proofs.page.page.push_page.Goals as goal

pub returns : goal.returns
returns c =
    let out = c.args.out.now.items in
    let blocks = c.args.blocks.now in
    let found = c.args.found.now in
    let p = c.args.profile.now in
    let n = c.args.before in
    let head = page_head p n found in
    let list = index p n blocks found in
    let listed : c.push_index.new.out.items ≡ c.push_head.new.out.items ++ list =
    c.in_ok-push_index.ensures.text ∙ ap (λ (q : Profile). c.push_head.new.out.items ++ index q n blocks found) c.new-timer.ensures in
    let first = more out c.push_head.new.out.items c.push_index.new.out.items head list c.in_ok-push_head.ensures listed in
    last c.push_entries.result out c.push_index.new.out.items c.push_entries.new.out.items (head ++ list) (page_entries (entry Orders p) n blocks found) first
    (subst (λ (q : Profile). OnOk c.push_entries.result (c.push_entries.new.out.items ≡ c.push_index.new.out.items ++ page_entries (entry Orders q) n blocks found))
    (c.in_ok-push_index.ensures.profile ∙ c.new-timer.ensures) c.push_entries.ensures.text)
