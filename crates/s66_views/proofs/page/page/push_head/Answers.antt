use Rattle.std.proofs.Common.{List, ◌≡◌, ◌++◌, ◌∙◌, ap}
use Rattle.s66_command.specs.{Change, changes}
use Rattle.s66_views.specs.{PAGE_START, PAGE_HEAD, PAGE_LIST, page_title, profile_line}
use Rattle.s66_views.proofs.Pieces.{more, last}
use Rattle.s66_views.proofs.page.page.push_head.Goals as goal

pub returns : goal.returns
returns c =
    let out = c.args.out.now.items in
    let start = PAGE_START.now in
    let title = page_title c.args.before c.args.found.now in
    let style = PAGE_HEAD.now in
    let profile = profile_line (changes c.args.profile.now) in
    let titled = more out c.push_text.new.out.items c.push_title.new.out.items start title c.in_ok-push_text.ensures c.in_ok-push_title.ensures in
    let styled = more out c.push_title.new.out.items c.push_text-2.new.out.items (start ++ title) style titled c.in_ok-push_text-2.ensures in
    let said : c.push_profile_line.new.out.items ≡ c.push_text-2.new.out.items ++ profile =
    c.in_ok-push_profile_line.ensures ∙ ap (λ (cs : List Change). c.push_text-2.new.out.items ++ profile_line cs) (c.as_slice.ensures.value ∙ c.changes_of.ensures)
    in
    let profiled = more out c.push_text-2.new.out.items c.push_profile_line.new.out.items (start ++ title ++ style) profile styled said in
    last c.push_text-3.result out c.push_profile_line.new.out.items c.push_text-3.new.out.items (start ++ title ++ style ++ profile) PAGE_LIST.now profiled c.push_text-3.ensures
